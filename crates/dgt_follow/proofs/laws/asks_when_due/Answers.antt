use Rattle.dgt_follow.proofs.WhenDue.{for_a_reason, is_first}
use Rattle.dgt_follow.proofs.laws.asks_when_due.Goals as goal

pub returns-clause-reasons : goal.returns-clause-reasons
returns-clause-reasons c = for_a_reason

pub returns-clause-first : goal.returns-clause-first
returns-clause-first c = is_first
