use Rattle.dgt_link.proofs.Counting.{step_is_faulty}
use Rattle.dgt_link.proofs.healing.faults_keep.Goals as goal

pub returns : goal.returns
returns c = step_is_faulty c.grammars.ensures
