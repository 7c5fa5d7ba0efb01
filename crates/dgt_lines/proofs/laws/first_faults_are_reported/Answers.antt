use Rattle.dgt_lines.proofs.DoubtLemmas.{first_faults_are_reported}
use Rattle.dgt_lines.proofs.laws.first_faults_are_reported.Goals as goal

pub returns : goal.returns
returns c = first_faults_are_reported
