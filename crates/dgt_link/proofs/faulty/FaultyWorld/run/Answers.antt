use Rattle.{std.proofs.Common.{◌∷◌}, dgt_link.{specs.{Act.{ActContent}, Healing.{IsInTurnWorld, IsPromisedWorld}, declared.acts.Outcome.{Outcome}}, proofs.Counting.{plain_runs}}}
use Rattle.dgt_link.proofs.PictureHopes.{sane_keeps}
use Rattle.dgt_link.proofs.faulty.FaultyWorld.run.Goals as goal

pub returns-clause-from_any_state : goal.returns-clause-from_any_state
returns-clause-from_any_state c =
    λ later are room calm.
    c.calm_heals.ensures.any_state later _ _ c.act_all.ensures.0 c.is_faulty.ensures.sane room
    calm (rw are at c.act_all.ensures.2)

pub returns-clause-awaited_kept : goal.returns-clause-awaited_kept
returns-clause-awaited_kept c = λ none is. sane_keeps c.faults_heal.ensures.sane _ IsInTurnWorld
    (λ act old new answer. c.awaited_replies_come.ensures.kept act old new answer) _ _ _
    c.act_all.ensures.0 none c.is_faulty.ensures.sane is c.act_all.ensures.2

pub returns-clause-clock_kept : goal.returns-clause-clock_kept
returns-clause-clock_kept c =
    λ calm is. c.clocks_heal.ensures.kept_by_all _ _ _ c.act_all.ensures.0 calm is
    c.act_all.ensures.2

pub returns-clause-kept : goal.returns-clause-kept
returns-clause-kept c = λ calm is. sane_keeps c.faults_heal.ensures.sane _ IsPromisedWorld
    (λ act old new answer quiet. c.steps_heal.ensures.kept act old new answer quiet.0 quiet.1) _ _ _
    c.act_all.ensures.0 calm c.is_faulty.ensures.sane is c.act_all.ensures.2

pub returns-clause-reported : goal.returns-clause-reported
returns-clause-reported c =
    λ later outcomes are runs all is dump.
    c.dumps_are_shown.ensures.picture later c.args.self.now c.act_all.new.self outcomes all is dump
    (plain_runs (ActContent.BoardSend ∷ later) c.args.self.now c.act_all.new.self
    (Outcome.Done ∷ outcomes) (rw are at runs))

pub returns-clause-in_order : goal.returns-clause-in_order
returns-clause-in_order c =
    λ later outcomes earlier first others square are runs all is dump.
    c.dumps_are_shown.ensures.in_order later _ outcomes earlier first others square all is dump runs
