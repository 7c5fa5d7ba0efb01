use Rattle.std.proofs.Common.{◌≤◌, ◌<◌, ℕ}
use Rattle.dgt_game.specs.declared.node.Place.{Place}
use Rattle.dgt_game.specs.Reading.{ShowsAt}
use Rattle.dgt_game.proofs.recogniser.Recogniser.earlier.Given as goal

abbrev pub invariant-loop-k : goal.invariant-loop-k
invariant-loop-k l = (k : ℕ) → 1 ≤ k → k < l.k → ¬ (ShowsAt l.self.memory l.view (Place.Line k))
