use Rattle.dgt_game.proofs.Results.{lost_in_turn, one_by_kings, one_by_rules, not_found, not_lost, one_other, one_result, result_is_found, right_if_away, stays}
use Rattle.dgt_game.proofs.laws.what_results_say.Goals as goal

pub returns-clause-rules : goal.returns-clause-rules
returns-clause-rules c = one_by_rules

pub returns-clause-kings : goal.returns-clause-kings
returns-clause-kings c = one_by_kings

pub returns-clause-other : goal.returns-clause-other
returns-clause-other c = one_other

pub returns-clause-once : goal.returns-clause-once
returns-clause-once c = one_result

pub returns-clause-lost : goal.returns-clause-lost
returns-clause-lost c = lost_in_turn

pub returns-clause-away : goal.returns-clause-away
returns-clause-away c = right_if_away

pub returns-clause-found : goal.returns-clause-found
returns-clause-found c = result_is_found

pub returns-clause-stay : goal.returns-clause-stay
returns-clause-stay c = stays

pub returns-clause-not_found : goal.returns-clause-not_found
returns-clause-not_found c = not_found

pub returns-clause-not_lost : goal.returns-clause-not_lost
returns-clause-not_lost c = not_lost
