use Rattle.dgt_follow.proofs.Hearing.{counts_of_heard, host_of_heard}
use Rattle.dgt_follow.proofs.laws.hearing_is_the_hosts.Goals as goal

pub returns-clause-host : goal.returns-clause-host
returns-clause-host c = host_of_heard

pub returns-clause-pace : goal.returns-clause-pace
returns-clause-pace c = counts_of_heard
