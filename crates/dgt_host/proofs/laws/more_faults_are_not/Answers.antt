use Rattle.dgt_host.proofs.ConfirmedLemmas.{late_faults, two_faults, unconfirmed}
use Rattle.dgt_host.proofs.laws.more_faults_are_not.Goals as goal

pub returns-clause-two : goal.returns-clause-two
returns-clause-two c = two_faults

pub returns-clause-late : goal.returns-clause-late
returns-clause-late c = late_faults

pub returns-clause-unconfirmed : goal.returns-clause-unconfirmed
returns-clause-unconfirmed c = unconfirmed
