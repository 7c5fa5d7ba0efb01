use Rattle.dgt_host.proofs.FewFaults.{few_faults}
use Rattle.dgt_host.proofs.laws.few_faults_end_right.Goals as goal

pub returns : goal.returns
returns c = few_faults
