use Rattle.std.proofs.Common.{◌≤◌, ◌<◌, ℕ}
use Rattle.dgt_values.specs.Board.{pieces_of}
use Rattle.dgt_game.specs.declared.node.Place.{Place}
use Rattle.dgt_game.specs.Reading.{HasLine}
use Rattle.dgt_game.proofs.recogniser.Recogniser.read_replaced.Given as goal

abbrev pub invariant-loop-k : goal.invariant-loop-k
invariant-loop-k l =
    (k : ℕ) → 1 ≤ k → k < l.k
    → ¬ (HasLine 1 l.self.memory (Place.Line k) (pieces_of l.view.shown))

abbrev pub invariant-loop-k-2 : goal.invariant-loop-k-2
invariant-loop-k-2 l =
    (k : ℕ) → 1 ≤ k → k < l.k
    → ¬ (HasLine 2 l.self.memory (Place.Line k) (pieces_of l.view.shown))
