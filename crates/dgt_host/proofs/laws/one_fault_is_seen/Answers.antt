use Rattle.dgt_host.proofs.ConfirmedLemmas.{by_dump, confirmed_is, confirmed_was, faultless, leaving_exact}
use Rattle.dgt_host.proofs.laws.one_fault_is_seen.Goals as goal

pub returns-clause-was : goal.returns-clause-was
returns-clause-was c = confirmed_was

pub returns-clause-is : goal.returns-clause-is
returns-clause-is c = confirmed_is

pub returns-clause-dump : goal.returns-clause-dump
returns-clause-dump c = by_dump

pub returns-clause-right : goal.returns-clause-right
returns-clause-right c = faultless

pub returns-clause-leave : goal.returns-clause-leave
returns-clause-leave c = leaving_exact
