use Rattle.dgt_command.proofs.DivisionLemmas
use Rattle.dgt_command.proofs.laws.one_division.Goals as goal

pub returns : goal.returns
returns c = DivisionLemmas.each_divides_once
