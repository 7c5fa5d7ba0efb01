use Rattle.dgt_command.proofs.DivisionLemmas
use Rattle.dgt_command.proofs.laws.prefixes_divide_first.Goals as goal

pub returns : goal.returns
returns c = DivisionLemmas.divides_prefix
