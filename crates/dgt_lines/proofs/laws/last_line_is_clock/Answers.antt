use Rattle.dgt_lines.proofs.ClockLemmas.{last_line_is_clock}
use Rattle.dgt_lines.proofs.laws.last_line_is_clock.Goals as goal

pub returns : goal.returns
returns c = last_line_is_clock
