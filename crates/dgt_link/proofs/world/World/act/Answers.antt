use Rattle.dgt_link.{specs.Act.{act_content}, proofs.Counting.{plain_step}}
use Rattle.dgt_link.proofs.world.World.act.Goals as goal

pub invariant_of-self : goal.invariant_of-self
invariant_of-self c =
    c.acts_keep.ensures.sound (act_content c.args.act) _ _ c.step.result c.self.invariant
    (plain_step (act_content c.args.act) _ _ _ c.step.ensures.exact)

pub returns : goal.returns
returns c = rw (← c.self.view_is) (plain_step (act_content c.args.act) _ _ _ c.step.ensures.exact)
