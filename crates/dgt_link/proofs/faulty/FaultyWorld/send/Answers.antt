use Rattle.dgt_link.{specs.{Act.{ActContent}, Faults.{FaultyContent}, View.{world_of}}, proofs.Counting.{faulty_step}}
use Rattle.dgt_link.proofs.faulty.FaultyWorld.send.Goals as goal

pub invariant_of-self : goal.invariant_of-self
invariant_of-self c =
    c.faults_keep.ensures (FaultyContent.Plain ActContent.BoardSend) _ _ c.send_next.result
    c.self.invariant (faulty_step ActContent.BoardSend _ _ _
    (c.send_next.ensures.sends
    (world_of c.self.inside.board c.self.inside.host c.self.inside.up c.self.inside.down)))

pub returns-clause-exact : goal.returns-clause-exact
returns-clause-exact c = rw (← c.self.view_is)
    (c.send_next.ensures.sends
    (world_of c.self.inside.board c.self.inside.host c.self.inside.up c.self.inside.down))
