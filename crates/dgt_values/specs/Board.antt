-- Squares, pieces and positions.
use Prim.Native.Char.{code as ascii}
use Rattle.std.specs.Prelude.{◌≢◌, ℕ, ◌+◌, ◌-◌, ◌/◌, ◌%◌, ◌<◌, ◌↔◌, List, [], ◌∷◌, ◌++◌, codes}
use Rattle.std.specs.Prelude.{replicate, slice_get, slice_index, IsBitSet}
use Rattle.dgt_values.specs.declared.pieces.Piece.{Piece}
use Rattle.dgt_values.specs.declared.positions.Position.{Position}
use Rattle.dgt_values.specs.declared.squares.Square.{Square}

-- how clauses see a square
abbrev pub square_number : Square → ℕ
square_number square = square.index

-- the file as a letter from a on, and the rank as a digit from 8 down
abbrev pub square_name : ℕ → List ℕ
square_name square = (ascii "a" + square % 8) ∷ (ascii "8" - square / 8) ∷ []

-- the byte of a piece in a message
abbrev pub piece_code : Piece → ℕ
piece_code Piece.Empty = 0x00
piece_code Piece.WhitePawn = 0x01
piece_code Piece.WhiteRook = 0x02
piece_code Piece.WhiteKnight = 0x03
piece_code Piece.WhiteBishop = 0x04
piece_code Piece.WhiteKing = 0x05
piece_code Piece.WhiteQueen = 0x06
piece_code Piece.BlackPawn = 0x07
piece_code Piece.BlackRook = 0x08
piece_code Piece.BlackKnight = 0x09
piece_code Piece.BlackBishop = 0x0a
piece_code Piece.BlackKing = 0x0b
piece_code Piece.BlackQueen = 0x0c
piece_code Piece.FirstExtra = 0x0d
piece_code Piece.SecondExtra = 0x0e
piece_code Piece.ThirdExtra = 0x0f

-- the letter of a piece, by its code: upper case is white, and a dot is an empty square
abbrev pub piece_letter : Piece → ℕ
piece_letter piece = slice_index (codes ".PRNBKQprnbkqXYZ") (piece_code piece)

-- how clauses see a position: the pieces of its squares in order
abbrev pub pieces_of : Position → List Piece
pieces_of position = position.pieces

-- the initial position of a game, from rank 8 down, each rank from the a file on
abbrev pub start_pieces : List Piece
start_pieces =
    Piece.BlackRook ∷ Piece.BlackKnight ∷ Piece.BlackBishop ∷ Piece.BlackQueen
    ∷ Piece.BlackKing ∷ Piece.BlackBishop ∷ Piece.BlackKnight ∷ Piece.BlackRook
    ∷ replicate 8 Piece.BlackPawn ++ replicate 32 Piece.Empty ++ replicate 8 Piece.WhitePawn
    ++ Piece.WhiteRook ∷ Piece.WhiteKnight ∷ Piece.WhiteBishop ∷ Piece.WhiteQueen
    ∷ Piece.WhiteKing ∷ Piece.WhiteBishop ∷ Piece.WhiteKnight ∷ Piece.WhiteRook ∷ []

-- bit n is set if and only if square n differs
abbrev pub DifferingSquares : List Piece → List Piece → ℕ → Type 0
DifferingSquares a b bits =
    (square : ℕ) → square < 64 → IsBitSet bits square ↔ (slice_get a square ≢ slice_get b square)
