use Rattle.dgt_link.proofs.Counts.{anew_is_healing, clock_again, in_step_again, in_turn_again}
use Rattle.dgt_link.proofs.healing.beginnings_count.Goals as goal

pub returns-clause-picture : goal.returns-clause-picture
returns-clause-picture c = anew_is_healing

pub returns-clause-awaited : goal.returns-clause-awaited
returns-clause-awaited c = in_turn_again

pub returns-clause-in_step : goal.returns-clause-in_step
returns-clause-in_step c = in_step_again

pub returns-clause-clock : goal.returns-clause-clock
returns-clause-clock c =
    λ acts later act mode answers others same. clock_again acts later act answers others same mode
