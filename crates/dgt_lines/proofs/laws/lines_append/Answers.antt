use Rattle.dgt_lines.proofs.EventLemmas.{lines-append}
use Rattle.dgt_lines.proofs.laws.lines_append.Goals as goal

pub returns : goal.returns
returns c = lines-append c.chunks_in_a_row.ensures.add
