-- The state in which a game begins is possible.
use Rattle.std.{proofs.Common.{subst, ◌≡◌, ℕ, zero, suc, ◌+◌, ◌<◌, refl, arith, List, [], ◌∷◌, length, inl, inr, Bool, true, false, rules}, specs.Prelude.{◌⊎◌, None, ◌&&◌, nat_eq, nat_lt}}
use Rattle.{dgt_values.specs.declared.pieces.Piece.{Piece, TheVariants.{WhitePawn, WhiteKnight, WhiteBishop, WhiteRook, WhiteQueen, WhiteKing, BlackPawn}}}
use Rattle.{dgt_values.specs.{declared.pieces.Piece.TheVariants.{BlackKing, FirstExtra, SecondExtra, ThirdExtra}, Board.{start_pieces}}, dgt_chess.specs.declared.possible.Rights.{Rights}}
use Rattle.dgt_chess.specs.{declared.pieces.{Colour.{Colour, TheVariants.{White, Black}}, Man.{Man, TheVariants.{Pawn, Knight, Bishop, Rook, Queen, King}}}, Attacks.{piece_at, piece_of, row, Attacks}}
use Rattle.dgt_chess.specs.{Attacks.{IsAttacked, IsInCheck, IsOpen, OnLine, Straight}, declared.lines.Line.{Line, TheVariants.{File}}, Possible.{HasOneKing, HasNoExtra, HasNoStray}}
use Rattle.dgt_chess.{specs.Possible.{HasPassed, IsPossible}, proofs.OneMove.{both}}

-- the pieces at the beginning
abbrev fits : ℕ → Piece → Bool
fits n WhitePawn = nat_lt 47 n && nat_lt n 56
fits n WhiteKnight = nat_lt 47 n
fits n WhiteBishop = nat_lt 47 n
fits n WhiteRook = nat_lt 47 n
fits n WhiteQueen = nat_lt 47 n
fits n WhiteKing = nat_eq n 60
fits n BlackPawn = nat_lt 7 n && nat_lt n 16
fits n BlackKing = nat_eq n 4
fits n FirstExtra = false
fits n SecondExtra = false
fits n ThirdExtra = false
fits n _ = true

abbrev all_fit : ℕ → List Piece → Bool
all_fit n [] = true
all_fit n (piece ∷ pieces) = fits n piece && all_fit (n + 1) pieces

fit : (n : ℕ) (pieces : List Piece) → all_fit n pieces ≡ true → (k : ℕ) → k < length pieces
    → fits (n + k) (piece_at pieces k) ≡ true
fit n [] all k small = absurd (omega arith)
fit n (piece ∷ pieces) all zero small = search rules
fit n (piece ∷ pieces) all (suc k) small =
    let P : ℕ → Type 0 = λ m. fits m (piece_at pieces k) ≡ true in
    let same : n + 1 + k ≡ n + suc k = omega arith in
    subst P same (fit (n + 1) pieces (both (fits n piece) (all_fit (n + 1) pieces) all).1 k
    (omega arith))

stands : (s : ℕ) (piece : Piece) → s < 64 → piece_at start_pieces s ≡ piece → fits s piece ≡ true
stands s piece small here =
    let P : Piece → Type 0 = λ p. fits s p ≡ true in
    let S : ℕ → Type 0 = λ n. fits n (piece_at start_pieces s) ≡ true in
    let same : 0 + s ≡ s = omega arith in
    subst P here (subst S same (fit 0 start_pieces refl s small))

equals : (a b : ℕ) → nat_eq a b ≡ true → a ≡ b
equals a b t = grind arith

above : (a b : ℕ) → nat_lt a b ≡ true → a < b
above a b t = grind arith

white_low : (s : ℕ) (man : Man) → s < 64 → piece_at start_pieces s ≡ piece_of White man → 47 < s
white_low s Pawn small here =
    above 47 s (both (nat_lt 47 s) (nat_lt s 56) (stands s WhitePawn small here)).0
white_low s Knight small here = above 47 s (stands s WhiteKnight small here)
white_low s Bishop small here = above 47 s (stands s WhiteBishop small here)
white_low s Rook small here = above 47 s (stands s WhiteRook small here)
white_low s Queen small here = above 47 s (stands s WhiteQueen small here)
white_low s King small here = let at = equals s 60 (stands s WhiteKing small here) in omega arith

-- a pawn stands between
blocked : (line : Line) (a at : ℕ) (P : Type 0) → 47 < a → 4 < at → at < 47 → OnLine line 4 at
    → piece_at start_pieces at ≡ BlackPawn → ((a < 4) × P)
    ⊎ ((4 < a) × IsOpen line start_pieces 4 a) → ⊥
blocked line a at P low above below on pawn slides = search rules

not_straight : (a : ℕ) → 47 < a → Straight start_pieces a 4 → ⊥
not_straight a low h = elim h [
  | inl rank ↦ let on = rank.0 in omega arith
  | inr along ↦ blocked File a 12 _ low (omega arith) (omega arith) refl refl along.1
]

no_attack : (man : Man) (a : ℕ) → 47 < a → Attacks man White start_pieces a 4 → ⊥
no_attack man a low h = search (rules, not_straight)

no_check : ¬ (IsInCheck start_pieces Black)
unfolding IsAttacked
no_check check =
    let at : check.0 ≡ 4 = equals check.0 4 (stands check.0 BlackKing check.1 check.2) in
    let a = check.3.0 in
    let man = check.3.2.0 in
    let P : ℕ → Type 0 = λ s. Attacks man White start_pieces a s in
    no_attack man a (white_low a man check.3.1 check.3.2.1) (subst P at check.3.2.2)

one_white_king : HasOneKing start_pieces White
unfolding HasOneKing
one_white_king = (
  60,
  omega arith,
  refl,
  λ s small here.
      equals s 60 (stands s WhiteKing small here),
)

one_black_king : HasOneKing start_pieces Black
unfolding HasOneKing
one_black_king = (4, omega arith, refl, λ s small here. equals s 4 (stands s BlackKing small here))

no_extra : HasNoExtra start_pieces
unfolding HasNoExtra
no_extra s small h = elim h [
  | inl e ↦ let no = stands s FirstExtra small e in cc
  | inr more ↦ elim more [
    | inl e ↦ let no = stands s SecondExtra small e in cc
    | inr e ↦ let no = stands s ThirdExtra small e in cc
  ]
]

pawn_rows : (s : ℕ) (colour : Colour) → s < 64 → piece_at start_pieces s ≡ piece_of colour Pawn
    → (row s ≡ 0) ⊎ (row s ≡ 7) → ⊥
pawn_rows s White small here edge =
    let parts = both (nat_lt 47 s) (nat_lt s 56) (stands s WhitePawn small here) in
    search rules
pawn_rows s Black small here edge =
    let parts = both (nat_lt 7 s) (nat_lt s 16) (stands s BlackPawn small here) in
    search rules

no_stray : HasNoStray start_pieces
unfolding HasNoStray
no_stray s small astray = pawn_rows s astray.1.0 small astray.1.1 astray.0

not_passed : HasPassed start_pieces White None
unfolding HasPassed
not_passed square is = let no : ⊥ = cc in absurd no

pub at_start : (pieces : List Piece) (rights : Rights) → pieces ≡ start_pieces
    → IsPossible pieces White rights None 1
at_start pieces rights same =
    search (rules, one_white_king, one_black_king, no_extra, no_stray, no_check, not_passed)
