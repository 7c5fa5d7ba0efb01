use Rattle.dgt_game.proofs.Planning.{in_turn_is_not_refused, lost_is_reported, nothing_fits, one_fits, possible_is_hopeful}
use Rattle.dgt_game.proofs.laws.what_plans_say.Goals as goal

pub returns-clause-one : goal.returns-clause-one
returns-clause-one c = one_fits

pub returns-clause-nothing : goal.returns-clause-nothing
returns-clause-nothing c = nothing_fits

pub returns-clause-lost : goal.returns-clause-lost
returns-clause-lost c = lost_is_reported

pub returns-clause-hopeful : goal.returns-clause-hopeful
returns-clause-hopeful c = possible_is_hopeful

pub returns-clause-turn : goal.returns-clause-turn
returns-clause-turn c = in_turn_is_not_refused
