use Rattle.dgt_game.proofs.Meaning.{back_is_counted, joined_is_one, legal_is_joined, none_and_one, one_line, unseen_is_only}
use Rattle.dgt_game.proofs.laws.what_events_say.Goals as goal

pub returns-clause-joined : goal.returns-clause-joined
returns-clause-joined c = legal_is_joined

pub returns-clause-line : goal.returns-clause-line
returns-clause-line c = joined_is_one

pub returns-clause-moves : goal.returns-clause-moves
returns-clause-moves c = none_and_one

pub returns-clause-one : goal.returns-clause-one
returns-clause-one c = one_line

pub returns-clause-only : goal.returns-clause-only
returns-clause-only c = unseen_is_only

pub returns-clause-back : goal.returns-clause-back
returns-clause-back c = back_is_counted
