use Rattle.dgt_followed.proofs.ClockHeals.{askings_promise_clock}
use Rattle.dgt_followed.proofs.clocks_heal.Goals as goal

pub returns-clause-clock_promised : goal.returns-clause-clock_promised
returns-clause-clock_promised c =
    askings_promise_clock c.faults_heal.ensures.sane c.faults_heal.ensures.in_step
    c.clocks_heal.ensures.asked c.clocks_heal.ensures.reading c.clocks_heal.ensures.kept

pub returns-clause-clock : goal.returns-clause-clock
returns-clause-clock c = λ happenings before after sane left none runs often quiet.
    c.clocks_heal.ensures.clock after.world
    (askings_promise_clock c.faults_heal.ensures.sane c.faults_heal.ensures.in_step
    c.clocks_heal.ensures.asked
    c.clocks_heal.ensures.reading c.clocks_heal.ensures.kept happenings before after sane left none
    runs often) quiet
