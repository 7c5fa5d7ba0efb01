-- States of the same parts have the same legal moves, whether or not they have a passed square on
-- which no legal move captures.
use Rattle.{std.{proofs.{Math.Logic.{∥∥₁_elim}, Common.{◌≡◌, ℕ, ◌<◌, ◌⊎◌, arith, rules, List}}, specs.Prelude.{Option, Some, None, option_map}}, dgt_values.specs.declared.pieces.Piece.{Piece}}
use Rattle.{dgt_values.specs.{declared.squares.Square.{Square}, Board.{square_number}}, dgt_chess.specs.{declared.{pieces.{Colour.{Colour}, Man.{Man}}, state.State.{State}}, Attacks.{Attacks}}}
use Rattle.dgt_chess.specs.{Attacks.{IsFree, row}, Possible.{HasPassed}, Rules.{IsPrey, LegalBy, Moves, TakesPassing, board, last_row, passed}, Fen.{CanTakePassing, IsShown, SameBut, SameMoves}}

-- two states have the same parts that rules for moves read, but perhaps for the passed square
pub record SameParts (a b : State) : Type 0 where
  pub pieces : board a ≡ board b
  pub turn : a.turn ≡ b.turn
  pub rights : a.rights ≡ b.rights

pub same_parts : (a b : State) → SameBut a b → SameParts a b
same_parts a b same = search rules

pub along : (P : List Piece → Colour → Type 0) (p p' : List Piece) (t t' : Colour) → p ≡ p' → t ≡ t'
    → P p t → P p' t'
along P p p' t t' e f h = search rules

abbrev GoesOn : Man → ℕ → ℕ → List Piece → Colour → Type 0
GoesOn man from to pieces turn = Attacks man turn pieces from to
    × (IsFree pieces to ⊎ IsPrey pieces turn to)

go : (man : Man) (a b : State) → SameParts a b → (from to : ℕ) → GoesOn man from to (board a) a.turn
    → GoesOn man from to (board b) b.turn
go man a b same from to h =
    along (λ l t. GoesOn man from to l t) (board a) (board b) a.turn b.turn same.pieces same.turn h

pawn_to : (a b : State) → SameParts a b → (from to : ℕ)
    → (TakesPassing (board a) a.turn (passed a) from to → passed a ≡ passed b)
    → Moves Man.Pawn a from to → Moves Man.Pawn b from to
pawn_to a b same from to law h = search rules

king_to : (a b : State) → SameParts a b → (from to : ℕ) → Moves Man.King a from to
    → Moves Man.King b from to
king_to a b same from to moves = search rules

-- no pawn promotes on a square that another has just passed
no_promotion : (pieces : List Piece) (turn : Colour) (over : Option ℕ) (square : ℕ)
    → HasPassed pieces turn over → over ≡ Some square → row square ≡ last_row turn → ⊥
unfolding HasPassed
no_promotion pieces Colour.White over square has is last = absurd (omega (arith, (has square is).0))
no_promotion pieces Colour.Black over square has is last = absurd (omega (arith, (has square is).0))

-- a legal capture in passing
can_take : (a : State) (from to : ℕ) (promotion : Option Man) → from < 64 → to < 64
    → LegalBy Man.Pawn a from to promotion → TakesPassing (board a) a.turn (passed a) from to
    → CanTakePassing a
unfolding CanTakePassing
can_take a from to None small small' legal takes = (from, to, small, small', legal, takes)
can_take a from to (Some man) small small' legal takes =
    absurd (∥∥₁_elim a.possible (λ x y. absurd x) (search (rules, no_promotion)))

moved_to : (man : Man) (a b : State) → SameParts a b → (from to : ℕ) (promotion : Option Man)
    → from < 64 → to < 64
    → (CanTakePassing a → passed a ≡ passed b) → LegalBy man a from to promotion
    → Moves man b from to
moved_to Man.Pawn a b same from to promotion small small' law legal =
    search (rules, pawn_to, can_take)
moved_to Man.Knight a b same from to promotion small small' law legal =
    go Man.Knight a b same from to legal.moves
moved_to Man.Bishop a b same from to promotion small small' law legal =
    go Man.Bishop a b same from to legal.moves
moved_to Man.Rook a b same from to promotion small small' law legal =
    go Man.Rook a b same from to legal.moves
moved_to Man.Queen a b same from to promotion small small' law legal =
    go Man.Queen a b same from to legal.moves
moved_to Man.King a b same from to promotion small small' law legal =
    king_to a b same from to legal.moves

pub legal_to : (a b : State) → SameParts a b → (CanTakePassing a → passed a ≡ passed b)
    → (man : Man) (from to : ℕ)
    (promotion : Option Man) → from < 64 → to < 64 → LegalBy man a from to promotion
    → LegalBy man b from to promotion
legal_to a b same law man from to promotion small small' legal = record {
  own = search rules;
  moves = moved_to man a b same from to promotion small small' law legal;
  promotes = search rules;
  safe = search rules;
}

pub back : (a b : State) → SameParts a b → SameParts b a
back a b same = search rules

pub same_moves : (a b : State) → SameParts a b → (CanTakePassing a → passed a ≡ passed b)
    → (CanTakePassing b → passed b ≡ passed a) → SameMoves a b
same_moves a b same law law' = λ from to promotion small small'. (
  λ legal. (legal.0, legal_to a b same law legal.0 from to promotion small small' legal.1),
  λ legal. (
    legal.0,
    search (rules, legal_to, back),
  ),
)

-- a state whose square is not shown has none on which a legal move captures
taken_is_some : (a : State) → CanTakePassing a → passed a ≡ None → ⊥
unfolding CanTakePassing
taken_is_some a can none = let is = can.5.0 in let none_is : ⊥ = cc in none_is

-- the squares of two states that show the same
pub shown_same : (a b : State) (s s' : Option Square) → IsShown a s → IsShown b s'
    → option_map square_number s ≡ option_map square_number s' → CanTakePassing a
    → passed a ≡ passed b
shown_same a b s s' shown h e take = search (rules, taken_is_some)

-- of a state and one that has what it shows
pub shown_to : (a new : State) (s : Option Square) → IsShown a s
    → option_map square_number s ≡ passed new → CanTakePassing a → passed new ≡ passed a
shown_to a new s shown e take = search rules

pub shown_from : (a new : State) (s : Option Square) → IsShown a s
    → option_map square_number s ≡ passed new → CanTakePassing new → passed new ≡ passed a
shown_from a new s shown e take = search (rules, taken_is_some)
