use Rattle.std.proofs.Common.{◌≡◌, ◌<◌, ℕ, Some, slice_get}
use Rattle.dgt_game.specs.declared.node.Step.{Step}
use Rattle.dgt_game.specs.Memory.{steps}
use Rattle.dgt_game.proofs.Planning.{LacksOf}
use Rattle.dgt_game.proofs.recogniser.Recogniser.is_lifted.Given as goal

-- the board doesn't lack only pieces of one of these
abbrev pub invariant-loop-k : goal.invariant-loop-k
invariant-loop-k l =
    (k : ℕ) → k < l.k → (step : Step)
    → slice_get (steps l.self.memory.seen.items) k ≡ Some step → ¬ (LacksOf l.view step)
