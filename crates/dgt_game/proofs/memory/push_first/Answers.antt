use Rattle.{std.proofs.Common.{refl}, dgt_game.proofs.Told.{kept_take}}
use Rattle.dgt_game.proofs.memory.push_first.Goals as goal

pub returns-clause-kept : goal.returns-clause-kept
returns-clause-kept c = λ line h.
    rw (c.insert.ensures.items, c.truncate.ensures.items) (
      (refl, kept_take c.args.nodes.now.items line 15 h.0),
      λ e. absurd (cc),
    )
