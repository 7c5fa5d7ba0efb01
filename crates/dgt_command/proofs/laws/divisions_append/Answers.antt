use Rattle.dgt_command.proofs.DivisionLemmas
use Rattle.dgt_command.proofs.laws.divisions_append.Goals as goal

pub returns : goal.returns
returns c = DivisionLemmas.Divides-append
