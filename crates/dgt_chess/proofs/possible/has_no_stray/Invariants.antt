use Rattle.{std.specs.Prelude.{ℕ, ◌<◌, IsTrue}, dgt_chess.specs.Possible.{IsAstray}}
use Rattle.dgt_chess.proofs.possible.has_no_stray.Given as goal

abbrev pub invariant-loop-square : goal.invariant-loop-square
invariant-loop-square l =
    record {
      found : IsTrue l.is_found → (s : ℕ) × (s < l.square) × IsAstray l.pieces s;
      passed : ¬ (IsTrue l.is_found) → (s : ℕ) → s < l.square → ¬ (IsAstray l.pieces s);
    }
