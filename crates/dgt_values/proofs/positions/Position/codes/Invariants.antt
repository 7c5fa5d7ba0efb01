use Rattle.{std.proofs.Common.{◌≡◌, ◌<◌, ℕ, get_or, length}, dgt_values.specs.{Board.{piece_code}, declared.pieces.Piece.TheVariants.{Empty}}}
use Rattle.dgt_values.proofs.positions.Position.codes.Given as goal

abbrev pub invariant-loop-square : goal.invariant-loop-square
invariant-loop-square l = record {
  len : length l.codes ≡ 64;
  filled : (n : ℕ) → n < l.square → get_or l.codes n 0 ≡ piece_code (get_or l.self.pieces n Empty);
}
