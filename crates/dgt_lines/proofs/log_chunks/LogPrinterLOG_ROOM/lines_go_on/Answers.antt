use Rattle.dgt_lines.proofs.Logged.{logged_on}
use Rattle.dgt_lines.proofs.log_chunks.LogPrinterLOG_ROOM.lines_go_on.Goals as goal

pub returns : goal.returns
returns c = λ first now bytes text more printed are.
    logged_on printed c.chunks_in_a_row.ensures.add c.bodies_are_read.ensures.each more
