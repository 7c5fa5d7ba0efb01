use Rattle.dgt_command.proofs.CodeLemmas.{one_id}
use Rattle.dgt_command.proofs.laws.a_number_has_one_id.Goals as goal

pub returns : goal.returns
returns c = one_id
