use Rattle.{std.proofs.Common.{refl}, dgt_game.proofs.Held.{same_seen}}
use Rattle.dgt_game.proofs.memory.Memory.set_sure.Goals as goal

pub returns-clause-holds : goal.returns-clause-holds
returns-clause-holds c = λ shown line h.
    same_seen shown line c.args.self.now _ refl c.set_sure.ensures.steps refl refl refl h
