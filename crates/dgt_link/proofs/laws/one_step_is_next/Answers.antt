use Rattle.dgt_link.proofs.BothWays.{next_until_rest, one_is_next, rests_without_next}
use Rattle.dgt_link.proofs.laws.one_step_is_next.Goals as goal

pub returns-clause-one : goal.returns-clause-one
returns-clause-one c = one_is_next

pub returns-clause-some : goal.returns-clause-some
returns-clause-some c = rests_without_next

pub returns-clause-none : goal.returns-clause-none
returns-clause-none c = next_until_rest
