-- What some half-moves can change on a board at most.
use Rattle.std.specs.Prelude.{◌≡◌, ◌≢◌, ℕ, ◌+◌, List, ◌∷◌, Bool, true, false, not, ◌&&◌, nat_eq, if◌then◌else◌}
use Rattle.dgt_values.specs.declared.pieces.Piece.{Piece}
use Rattle.dgt_values.specs.Board.{piece_code}
use Rattle.dgt_chess.specs.declared.pieces.Colour.{Colour}
use Rattle.dgt_chess.specs.declared.pieces.Man.{Man}
use Rattle.dgt_chess.specs.Attacks.{piece_at, piece_of, row}
use Rattle.dgt_chess.specs.Rules.{first_row}
use Rattle.dgt_game.specs.declared.reach.Kind.{Kind}

-- on how many squares the pieces before and after pass a test
abbrev pub count : (Piece → Piece → Bool) → List Piece → List Piece → ℕ
count test (old ∷ olds) (new ∷ news) = (if test old new then 1 else 0) + count test olds news
count test olds news = 0

-- A man of the colour, and not its king. A castling puts only one of these on another square.
abbrev pub counts : Colour → Piece → Bool
counts Colour.White Piece.WhitePawn = true
counts Colour.White Piece.WhiteKnight = true
counts Colour.White Piece.WhiteBishop = true
counts Colour.White Piece.WhiteRook = true
counts Colour.White Piece.WhiteQueen = true
counts Colour.Black Piece.BlackPawn = true
counts Colour.Black Piece.BlackKnight = true
counts Colour.Black Piece.BlackBishop = true
counts Colour.Black Piece.BlackRook = true
counts Colour.Black Piece.BlackQueen = true
counts colour piece = false

-- one of these has arrived on a square, by its pieces before and after
abbrev pub has_arrived : Colour → Piece → Piece → Bool
has_arrived colour old new = not (nat_eq (piece_code old) (piece_code new)) && counts colour new

abbrev pub arrivals : Colour → List Piece → List Piece → ℕ
arrivals colour olds news = count (has_arrived colour) olds news

-- a man of the kind
abbrev pub is_of : Kind → Piece → Bool
is_of kind Piece.WhiteKnight = true
is_of kind Piece.WhiteBishop = true
is_of kind Piece.WhiteQueen = true
is_of kind Piece.BlackKnight = true
is_of kind Piece.BlackBishop = true
is_of kind Piece.BlackQueen = true
is_of (Kind.WithRooks colour) Piece.WhiteRook = true
is_of (Kind.WithRooks colour) Piece.BlackRook = true
is_of (Kind.WithRooks Colour.White) Piece.WhitePawn = true
is_of (Kind.WithRooks Colour.Black) Piece.BlackPawn = true
is_of Kind.WithKings Piece.WhiteKing = true
is_of Kind.WithKings Piece.BlackKing = true
is_of kind piece = false

-- one of these was on a square, and none is now
abbrev pub has_left : Kind → Piece → Piece → Bool
has_left kind old new = is_of kind old && not (is_of kind new)

abbrev pub departures : Kind → List Piece → List Piece → ℕ
departures kind olds news = count (has_left kind) olds news

-- a pawn of the colour is on its first row, and wasn't there before
abbrev pub IsBack : Colour → List Piece → List Piece → Type 0
IsBack colour old new =
    (square : ℕ) × (row square ≡ first_row colour)
    × (piece_at new square ≡ piece_of colour Man.Pawn)
    × (piece_at old square ≢ piece_of colour Man.Pawn)
