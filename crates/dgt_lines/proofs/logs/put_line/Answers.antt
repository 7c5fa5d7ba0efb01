use Rattle.dgt_lines.proofs.GatherLemmas.{puts_refused}
use Rattle.dgt_lines.proofs.logs.put_line.Goals as goal

pub returns-in_err-make_room : goal.returns-in_err-make_room
returns-in_err-make_room g c =
    puts_refused _ _ _ _ _ _ _ _ c.from_residual.ensures.1 c.in_err-make_room.ensures.output
    c.in_err-make_room.ensures.dropped c.in_err-make_room.ensures.no_flush
