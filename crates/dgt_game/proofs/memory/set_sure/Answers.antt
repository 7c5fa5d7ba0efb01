use Rattle.{std.proofs.Common.{refl}, dgt_game.proofs.Nodes.{same_written}}
use Rattle.dgt_game.proofs.memory.set_sure.Goals as goal

pub returns-then-k-len-clause-steps : goal.returns-then-k-len-clause-steps
returns-then-k-len-clause-steps c =
    same_written c.args.nodes.now.items c.deref.result.now c.deref_mut.result.now c.args.k _
    c.index-deref-k.result c.deref.ensures.0 c.deref_mut.ensures.value c.index-deref-k.is refl
