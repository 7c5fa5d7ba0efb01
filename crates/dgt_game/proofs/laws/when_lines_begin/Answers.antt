use Rattle.dgt_game.proofs.{Planning.{else_may_begin, far_is_counted, moving_sets_up}, Settling.{beginning_has_rested, kings_are_taken, kings_have_rested}}
use Rattle.dgt_game.proofs.laws.when_lines_begin.Goals as goal

pub returns-clause-may : goal.returns-clause-may
returns-clause-may c = else_may_begin

pub returns-clause-set_up : goal.returns-clause-set_up
returns-clause-set_up c = moving_sets_up

pub returns-clause-counted : goal.returns-clause-counted
returns-clause-counted c = far_is_counted

pub returns-clause-rested : goal.returns-clause-rested
returns-clause-rested c = beginning_has_rested

pub returns-clause-kings : goal.returns-clause-kings
returns-clause-kings c = kings_have_rested

pub returns-clause-taken : goal.returns-clause-taken
returns-clause-taken c = kings_are_taken
