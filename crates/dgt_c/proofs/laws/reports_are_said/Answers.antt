use Rattle.dgt_c.proofs.TextLemmas.{reports_are_said}
use Rattle.dgt_c.proofs.laws.reports_are_said.Goals as goal

pub returns : goal.returns
returns c = record { said = reports_are_said }
