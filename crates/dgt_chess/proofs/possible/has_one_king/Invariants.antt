use Rattle.{std.specs.Prelude.{◌≡◌, ◌≢◌, ℕ, ◌<◌, ◌≤◌}, dgt_chess.specs.{declared.pieces.Man.TheVariants.{King}, Attacks.{piece_at, piece_of}}}
use Rattle.dgt_chess.proofs.possible.has_one_king.Given as goal

abbrev pub invariant-loop-square : goal.invariant-loop-square
invariant-loop-square l =
    record {
      small : l.count ≤ l.square;
      none : l.count ≡ 0
          → (s : ℕ) → s < l.square → piece_at l.pieces s ≢ piece_of l.colour King;
      one : l.count ≡ 1
          → (king : ℕ) × (king < l.square) × (piece_at l.pieces king ≡ piece_of l.colour King)
          × ((s : ℕ) → s < l.square → piece_at l.pieces s ≡ piece_of l.colour King → s ≡ king);
      more : 2 ≤ l.count
          → (first second : ℕ) × (first < second) × (second < l.square)
          × (piece_at l.pieces first ≡ piece_of l.colour King)
          × (piece_at l.pieces second ≡ piece_of l.colour King);
    }
