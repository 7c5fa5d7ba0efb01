use Rattle.dgt_game.proofs.Meaning.{end_is_shown, held_may_lack, one_is_gone, one_is_shown, others_are_held, several_are_shown, shown_is_held, start_is_shown}
use Rattle.dgt_game.proofs.laws.what_was_shown.Goals as goal

pub returns-clause-several : goal.returns-clause-several
returns-clause-several c = several_are_shown

pub returns-clause-one : goal.returns-clause-one
returns-clause-one c = one_is_shown

pub returns-clause-others : goal.returns-clause-others
returns-clause-others c = others_are_held

pub returns-clause-gone : goal.returns-clause-gone
returns-clause-gone c = one_is_gone

pub returns-clause-may : goal.returns-clause-may
returns-clause-may c = held_may_lack

pub returns-clause-pieces : goal.returns-clause-pieces
returns-clause-pieces c = shown_is_held

pub returns-clause-start : goal.returns-clause-start
returns-clause-start c = start_is_shown

pub returns-clause-end : goal.returns-clause-end
returns-clause-end c = end_is_shown
