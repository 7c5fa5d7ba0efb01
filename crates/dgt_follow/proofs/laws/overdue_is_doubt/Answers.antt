use Rattle.dgt_follow.proofs.Overdue.{is_asked_anew, is_asked_when_disturbed, is_doubt}
use Rattle.dgt_follow.proofs.laws.overdue_is_doubt.Goals as goal

pub returns-clause-doubt : goal.returns-clause-doubt
returns-clause-doubt c = is_doubt

pub returns-clause-asked : goal.returns-clause-asked
returns-clause-asked c = is_asked_anew

pub returns-clause-disturbed : goal.returns-clause-disturbed
returns-clause-disturbed c = is_asked_when_disturbed
