-- Possible states: articles 1.4.1, 2.2, 3.7 and 3.8.2 of the FIDE Laws of Chess.
use Rattle.std.specs.Prelude.{◌≡◌, ℕ, ◌+◌, ◌-◌, ◌<◌, ◌≤◌, ◌⊎◌, List, Bool, IsTrue, Option, Some}
use Rattle.dgt_values.specs.declared.pieces.Piece.{Piece}
use Rattle.dgt_chess.specs.declared.pieces.Colour.{Colour}
use Rattle.dgt_chess.specs.declared.pieces.Man.{Man}
use Rattle.dgt_chess.specs.declared.possible.Impossible.{Impossible}
use Rattle.dgt_chess.specs.declared.possible.Rights.{Rights}
use Rattle.dgt_chess.specs.Attacks.{row, piece_at, piece_of, other, IsFree, IsInCheck}

-- a king of the colour stands on one square and on no other: 2.2
unfoldable pub HasOneKing : List Piece → Colour → Type 0
HasOneKing pieces colour =
    (square : ℕ) × (square < 64) × (piece_at pieces square ≡ piece_of colour Man.King)
    × ((s : ℕ) → s < 64 → piece_at pieces s ≡ piece_of colour Man.King → s ≡ square)

abbrev pub HasKings : List Piece → Type 0
HasKings pieces = HasOneKing pieces Colour.White × HasOneKing pieces Colour.Black

-- one of the pieces that chess doesn't have
abbrev pub IsExtra : Piece → Type 0
IsExtra piece =
    (piece ≡ Piece.FirstExtra) ⊎ (piece ≡ Piece.SecondExtra) ⊎ (piece ≡ Piece.ThirdExtra)

unfoldable pub HasNoExtra : List Piece → Type 0
HasNoExtra pieces = (square : ℕ) → square < 64 → ¬ (IsExtra (piece_at pieces square))

-- a pawn on the first or last row: pawns begin on others and have to be promoted: 3.7.3.3
abbrev pub IsAstray : List Piece → ℕ → Type 0
IsAstray pieces square =
    ((row square ≡ 0) ⊎ (row square ≡ 7))
    × ((colour : Colour) × (piece_at pieces square ≡ piece_of colour Man.Pawn))

unfoldable pub HasNoStray : List Piece → Type 0
HasNoStray pieces = (square : ℕ) → square < 64 → ¬ (IsAstray pieces square)

-- a right to castle takes the king at home and the rook in its corner: 3.8.2.1
abbrev pub IsAtHome : Bool → List Piece → Colour → ℕ → ℕ → Type 0
IsAtHome unmoved pieces colour home corner =
    IsTrue unmoved
    → (piece_at pieces home ≡ piece_of colour Man.King)
    × (piece_at pieces corner ≡ piece_of colour Man.Rook)

abbrev pub HasRights : List Piece → Rights → Type 0
HasRights pieces rights =
    IsAtHome rights.white_short pieces Colour.White 60 63
    × IsAtHome rights.white_long pieces Colour.White 60 56
    × IsAtHome rights.black_short pieces Colour.Black 4 7
    × IsAtHome rights.black_long pieces Colour.Black 4 0

-- a pawn of the colour may have come from the first square to the third over the second: 3.7.2
abbrev pub HasStepped : List Piece → Colour → ℕ → ℕ → ℕ → Type 0
HasStepped pieces colour from over to =
    IsFree pieces from × IsFree pieces over × (piece_at pieces to ≡ piece_of colour Man.Pawn)

-- a pawn of the side that isn't to move may just have passed over the square
abbrev pub IsPassedOver : List Piece → Colour → ℕ → Type 0
IsPassedOver pieces Colour.White square =
    (row square ≡ 2) × HasStepped pieces Colour.Black (square - 8) square (square + 8)
IsPassedOver pieces Colour.Black square =
    (row square ≡ 5) × HasStepped pieces Colour.White (square + 8) square (square - 8)

unfoldable pub HasPassed : List Piece → Colour → Option ℕ → Type 0
HasPassed pieces turn passed = (square : ℕ) → passed ≡ Some square → IsPassedOver pieces turn square

-- all that is asked of a state
pub record IsPossible (pieces : List Piece) (turn : Colour) (rights : Rights) (passed : Option ℕ)
    (number : ℕ) : Type 0 where
  pub kings : HasKings pieces
  pub known : HasNoExtra pieces
  pub pawns : HasNoStray pieces
  pub safe : ¬ (IsInCheck pieces (other turn))
  pub homes : HasRights pieces rights
  pub steps : HasPassed pieces turn passed
  pub counted : 1 ≤ number

-- the first of these that is wrong
abbrev pub Refuses : Impossible → List Piece → Colour → Rights → Option ℕ → ℕ → Type 0
Refuses Impossible.Kings pieces turn rights passed number = ¬ (HasKings pieces)
Refuses Impossible.Extra pieces turn rights passed number =
    HasKings pieces × ¬ (HasNoExtra pieces)
Refuses Impossible.Pawn pieces turn rights passed number =
    HasKings pieces × HasNoExtra pieces × ¬ (HasNoStray pieces)
Refuses Impossible.Check pieces turn rights passed number =
    HasKings pieces × HasNoExtra pieces × HasNoStray pieces × IsInCheck pieces (other turn)
Refuses Impossible.Rights pieces turn rights passed number =
    HasKings pieces × HasNoExtra pieces × HasNoStray pieces × ¬ (IsInCheck pieces (other turn))
    × ¬ (HasRights pieces rights)
Refuses Impossible.Passed pieces turn rights passed number =
    HasKings pieces × HasNoExtra pieces × HasNoStray pieces × ¬ (IsInCheck pieces (other turn))
    × HasRights pieces rights × ¬ (HasPassed pieces turn passed)
Refuses Impossible.Number pieces turn rights passed number =
    HasKings pieces × HasNoExtra pieces × HasNoStray pieces × ¬ (IsInCheck pieces (other turn))
    × HasRights pieces rights × HasPassed pieces turn passed × (number ≡ 0)

-- a state that is refused isn't possible
abbrev pub RefusedAreImpossible : Type 0
RefusedAreImpossible =
    (why : Impossible) (pieces : List Piece) (turn : Colour) (rights : Rights) (passed : Option ℕ)
    (number : ℕ) → Refuses why pieces turn rights passed number
    → ¬ (IsPossible pieces turn rights passed number)
