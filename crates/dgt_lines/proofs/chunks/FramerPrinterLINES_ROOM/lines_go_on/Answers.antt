use Rattle.dgt_lines.proofs.Heard.{heard_on}
use Rattle.dgt_lines.proofs.chunks.FramerPrinterLINES_ROOM.lines_go_on.Goals as goal

pub returns : goal.returns
returns c =
    λ first kept bytes text more printed are. heard_on printed c.chunks_in_a_row.ensures.add more
