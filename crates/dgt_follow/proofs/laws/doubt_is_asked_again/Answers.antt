use Rattle.dgt_follow.proofs.Retries.{are_apart, is_asked_again, stays_timed}
use Rattle.dgt_follow.proofs.laws.doubt_is_asked_again.Goals as goal

pub returns-clause-timed : goal.returns-clause-timed
returns-clause-timed c = stays_timed

pub returns-clause-again : goal.returns-clause-again
returns-clause-again c = is_asked_again

pub returns-clause-apart : goal.returns-clause-apart
returns-clause-apart c = are_apart
