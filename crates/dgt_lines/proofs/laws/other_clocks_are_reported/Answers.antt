use Rattle.dgt_lines.proofs.ClockLemmas.{other_clocks_are_reported}
use Rattle.dgt_lines.proofs.laws.other_clocks_are_reported.Goals as goal

pub returns : goal.returns
returns c = other_clocks_are_reported
