use Rattle.dgt_lines.proofs.NamedLemmas.{named_on}
use Rattle.dgt_lines.proofs.named_chunks.NamedPrinterLINES_ROOM.lines_go_on.Goals as goal

pub returns : goal.returns
returns c =
    λ first state bytes text more printed are. named_on printed c.chunks_in_a_row.ensures.add more
