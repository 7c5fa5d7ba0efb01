use Rattle.{std.proofs.{Common.{◌≡◌, ◌<◌, ℕ, arith, get_or, length, List, map, rules}, lemmas.List.{get_or-map}}, dgt_values.specs.{Board.{piece_code}, declared.pieces.Piece.{Piece}}}
use Rattle.dgt_values.{specs.declared.pieces.Piece.TheVariants.{Empty}, proofs.Differing.{mask_differs}}
use Rattle.dgt_values.proofs.positions.Position.differ.Goals as goal

-- the code of the piece on a square
code_at : (pieces : List Piece) (codes : List ℕ) (n : ℕ) → codes ≡ map piece_code pieces
    → length pieces ≡ 64 → n < 64 → get_or codes n 0 ≡ piece_code (get_or pieces n Empty)
code_at pieces codes n are all h = rw are (get_or-map piece_code pieces n Empty 0 (omega arith))

pub returns : goal.returns
returns c = search (rules, mask_differs, code_at)
