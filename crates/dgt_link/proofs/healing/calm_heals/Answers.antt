use Rattle.{std.proofs.Common.{refl, []}, dgt_link.{specs.{Faults.{FaultyContent}, Healing.{IsFollowing, IsPromisedWorld}, declared.acts.Outcome.{Outcome}}, proofs.PictureHopes.{sane_keeps}}}
use Rattle.dgt_link.proofs.{PictureHopes.{sane_after}, Restarting.{restart_runs}}
use Rattle.dgt_link.proofs.healing.calm_heals.Goals as goal

pub returns-clause-restart : goal.returns-clause-restart
returns-clause-restart c =
    λ acts later act world between begun after answers others sane before is step calm runs quiet.
    let still = c.faults_heal.ensures.sane acts world between answers sane before in
    c.promised_worlds_heal.ensures.picture after
    (sane_keeps c.faults_heal.ensures.sane _ IsPromisedWorld
    (λ a old new answer calm. c.steps_heal.ensures.kept a old new answer calm.0 calm.1) later begun
    after others calm
    (sane_after c.faults_heal.ensures.sane act between begun Outcome.Done still step)
    (c.steps_heal.ensures.anew act between begun is still step) runs) quiet

pub returns-clause-dump : goal.returns-clause-dump
returns-clause-dump c =
    λ acts later world between begun after answers others all sane follows before step calm runs
    quiet.
    let still = c.faults_heal.ensures.sane acts world between answers sane before in
    let following = sane_keeps c.faults_heal.ensures.sane _ IsFollowing
    (λ act old new answer keeps. c.steps_heal.ensures.following act old new answer keeps.0 keeps.1)
    acts world between answers all sane follows before in
    c.promised_worlds_heal.ensures.picture after
    (sane_keeps c.faults_heal.ensures.sane _ IsPromisedWorld
    (λ a old new answer calm. c.steps_heal.ensures.kept a old new answer calm.0 calm.1) later begun
    after others calm
    (sane_after c.faults_heal.ensures.sane _ between begun Outcome.Done still step)
    (c.steps_heal.ensures.dump between begun following step) runs) quiet

pub returns-clause-any_state : goal.returns-clause-any_state
returns-clause-any_state c = λ later world after answers sane room calm runs quiet.
    let ran = restart_runs later world after answers room runs in
    returns-clause-restart c [] later FaultyContent.Restart world world ran.0 after [] ran.1 sane
    refl refl ran.2 calm ran.3 quiet
