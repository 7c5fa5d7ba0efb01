use Rattle.{std.proofs.Common.{refl}, dgt_link.{specs.{Act.{act_content}, Faults.{FaultyContent}, View.{world_of}, declared.acts.Outcome.{Outcome}}, proofs.Counting.{faulty_step}}}
use Rattle.dgt_link.proofs.faulty.FaultyWorld.act.Goals as goal

pub invariant_of-self : goal.invariant_of-self
invariant_of-self c =
    c.faults_keep.ensures (FaultyContent.Plain (act_content c.in-Plain.act)) _ _ c.act_on.result
    c.self.invariant (faulty_step _ _ _ _ c.act_on.ensures)

pub invariant_of-self-in-BoardLost : goal.invariant_of-self-in-BoardLost
invariant_of-self-in-BoardLost c =
    c.faults_keep.ensures FaultyContent.BoardLost _ _ Outcome.Done c.self.invariant
    (record { answers = refl; leaves = rw c.line_lost.ensures refl })

pub invariant_of-self-in-GiveUp : goal.invariant_of-self-in-GiveUp
invariant_of-self-in-GiveUp c =
    c.faults_keep.ensures FaultyContent.GiveUp _ _ Outcome.Done c.self.invariant
    (record { answers = refl; leaves = rw c.give_up_awaited.ensures.gives_up refl })

pub invariant_of-self-in-Restart : goal.invariant_of-self-in-Restart
invariant_of-self-in-Restart c =
    c.faults_keep.ensures FaultyContent.Restart _ _ c.restart_behind.result c.self.invariant
    (c.restart_behind.ensures
    (world_of c.self.inside.board c.self.inside.host c.self.inside.up c.self.inside.down))

pub returns-in-Restart : goal.returns-in-Restart
returns-in-Restart c = rw (← c.self.view_is, c.in-Restart.is)
    (c.restart_behind.ensures
    (world_of c.self.inside.board c.self.inside.host c.self.inside.up c.self.inside.down))
