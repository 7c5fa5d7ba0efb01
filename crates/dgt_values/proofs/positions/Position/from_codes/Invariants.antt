use Rattle.{std.proofs.Common.{◌≡◌, ◌<◌, ℕ, get_or, length}, dgt_values.specs.{Board.{piece_code}, declared.pieces.Piece.TheVariants.{Empty}}}
use Rattle.dgt_values.proofs.positions.Position.from_codes.Given as goal

abbrev pub invariant-loop-at : goal.invariant-loop-at
invariant-loop-at l = record {
  len : length l.pieces ≡ 64;
  read : (n : ℕ) → n < l.at → get_or l.codes n 0 ≡ piece_code (get_or l.pieces n Empty);
}
