use Rattle.{std.specs.Prelude.{ℕ, ◌<◌, IsTrue}, dgt_chess.specs.{Attacks.{piece_at}, Possible.{IsExtra}}}
use Rattle.dgt_chess.proofs.possible.has_no_extra.Given as goal

abbrev pub invariant-loop-square : goal.invariant-loop-square
invariant-loop-square l =
    record {
      found : IsTrue l.is_found
          → (s : ℕ) × (s < l.square) × IsExtra (piece_at l.pieces s);
      passed : ¬ (IsTrue l.is_found)
          → (s : ℕ) → s < l.square → ¬ (IsExtra (piece_at l.pieces s));
    }
