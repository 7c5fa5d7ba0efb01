-- A piece is determined by its code, and by its letter.
use Prim.Native.Char.{code as ascii}
use Rattle.{std.{proofs.Common.{◌≡◌, ◌<◌, ℕ, List, [], ◌∷◌, get_or, lit<, sym, ◌∙◌, ap, rules}, specs.Prelude.{◌==◌, if◌then◌else◌}}, dgt_values.specs.Board.{piece_code, piece_letter}}
use Rattle.dgt_values.specs.declared.pieces.Piece.{Piece, TheVariants.{Empty, WhitePawn, WhiteRook, WhiteKnight, WhiteBishop, WhiteKing, WhiteQueen, BlackPawn, BlackRook, BlackKnight, BlackBishop}}
use Rattle.dgt_values.specs.declared.pieces.Piece.TheVariants.{BlackKing, BlackQueen, FirstExtra, SecondExtra, ThirdExtra}

-- the pieces in the order of their codes
by_code : List Piece
by_code =
    Empty ∷ WhitePawn ∷ WhiteRook ∷ WhiteKnight ∷ WhiteBishop ∷ WhiteKing ∷ WhiteQueen ∷ BlackPawn
    ∷ BlackRook ∷ BlackKnight ∷ BlackBishop ∷ BlackKing ∷ BlackQueen ∷ FirstExtra ∷ SecondExtra
    ∷ ThirdExtra ∷ []

piece_of_code : (piece : Piece) → get_or by_code (piece_code piece) Empty ≡ piece
unfolding by_code
piece_of_code piece = search rules

pub same_code : (a b : Piece) → piece_code a ≡ piece_code b → a ≡ b
same_code a b same =
    sym (piece_of_code a) ∙ ap (λ code. get_or by_code code Empty) same ∙ piece_of_code b

-- the piece with a letter
abbrev pub letter_piece : ℕ → Piece
letter_piece b = if b == ascii "P" then WhitePawn else (if b == ascii "R" then WhiteRook else
    (if b == ascii "N" then WhiteKnight else (if b == ascii "B" then WhiteBishop else
    (if b == ascii "K" then WhiteKing else (if b == ascii "Q" then WhiteQueen else
    (if b == ascii "p" then BlackPawn else (if b == ascii "r" then BlackRook else
    (if b == ascii "n" then BlackKnight else (if b == ascii "b" then BlackBishop else
    (if b == ascii "k" then BlackKing else (if b == ascii "q" then BlackQueen else
    (if b == ascii "X" then FirstExtra else (if b == ascii "Y" then SecondExtra else
    (if b == ascii "Z" then ThirdExtra else Empty))))))))))))))

-- each piece has its own letter
pub letter_piece-letter : (piece : Piece) → letter_piece (piece_letter piece) ≡ piece
letter_piece-letter piece = search rules

-- no two pieces have the same letter
pub letter_one : (a b : Piece) → piece_letter a ≡ piece_letter b → a ≡ b
letter_one a b e = sym (letter_piece-letter a) ∙ ap letter_piece e ∙ letter_piece-letter b

-- a code has four bits
pub piece_code-below : (piece : Piece) → piece_code piece < 16
piece_code-below piece = search (rules, lit<)
