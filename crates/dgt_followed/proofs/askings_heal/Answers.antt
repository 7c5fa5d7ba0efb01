use Rattle.dgt_followed.proofs.Heals.{askings_promise}
use Rattle.dgt_followed.proofs.askings_heal.Goals as goal

pub returns-clause-promised : goal.returns-clause-promised
returns-clause-promised c =
    askings_promise c.faults_heal.ensures.sane c.steps_heal.ensures.anew c.steps_heal.ensures.kept

pub returns-clause-picture : goal.returns-clause-picture
returns-clause-picture c = λ happenings before after sane left none runs often quiet.
    c.promised_worlds_heal.ensures.picture after.world
    (askings_promise c.faults_heal.ensures.sane c.steps_heal.ensures.anew c.steps_heal.ensures.kept
    happenings before after sane left none runs often) quiet
