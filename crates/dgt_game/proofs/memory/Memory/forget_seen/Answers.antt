use Rattle.{std.proofs.Common.{refl, ap}, dgt_game.{specs.Memory.{steps}, proofs.Held.{none_seen}}}
use Rattle.dgt_game.proofs.memory.Memory.forget_seen.Goals as goal

pub returns-clause-holds : goal.returns-clause-holds
returns-clause-holds c = λ shown line h.
    none_seen shown line c.args.self.now _ refl (ap steps c.clear.ensures) refl refl refl h
