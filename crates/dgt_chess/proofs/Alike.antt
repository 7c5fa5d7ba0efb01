-- States that agree in all that the rules read have the same legal moves.
use Rattle.{std.{proofs.Common.{◌≡◌, ℕ, ◌⊎◌, List, rules}, specs.Prelude.{Option}}, dgt_values.specs.declared.pieces.Piece.{Piece}, dgt_chess.specs.declared.pieces.{Colour.{Colour}, Man.{Man}}}
use Rattle.dgt_chess.specs.{declared.state.State.{State}, Attacks.{Attacks, IsFree}, Rules.{board, passed, CanGo, CanMove, IsAfter, IsPrey, LegalBy, Moves}}

pub record Alike (s t : State) : Type 0 where
  pub pieces : board s ≡ board t
  pub turn : s.turn ≡ t.turn
  pub rights : s.rights ≡ t.rights
  pub passed : passed s ≡ passed t

pub after_one : (man : Man) (s t u : State) (a b : ℕ) (p : Option Man) → IsAfter man s a b p t
    → IsAfter man s a b p u → Alike t u
after_one man s t u a b p h k = search rules

abbrev GoesOn : Man → List Piece → Colour → ℕ → ℕ → Type 0
GoesOn man pieces turn a b = Attacks man turn pieces a b × (IsFree pieces b ⊎ IsPrey pieces turn b)

goes_on : (man : Man) (pieces pieces' : List Piece) (turn turn' : Colour) (a b : ℕ)
    → pieces ≡ pieces' → turn ≡ turn' → GoesOn man pieces turn a b → GoesOn man pieces' turn' a b
goes_on man pieces pieces' turn turn' a b e f h = search rules

king_moves : (s t : State) (a b : ℕ) → Alike s t → Moves Man.King s a b → Moves Man.King t a b
king_moves s t a b like moves = search rules

moves : (man : Man) (s t : State) (a b : ℕ) → Alike s t → Moves man s a b → Moves man t a b
moves Man.Pawn s t a b like h = search rules
moves Man.King s t a b like h = king_moves s t a b like h
moves Man.Knight s t a b like h =
    goes_on Man.Knight (board s) (board t) s.turn t.turn a b like.pieces like.turn h
moves Man.Bishop s t a b like h =
    goes_on Man.Bishop (board s) (board t) s.turn t.turn a b like.pieces like.turn h
moves Man.Rook s t a b like h =
    goes_on Man.Rook (board s) (board t) s.turn t.turn a b like.pieces like.turn h
moves Man.Queen s t a b like h =
    goes_on Man.Queen (board s) (board t) s.turn t.turn a b like.pieces like.turn h

pub legal_by : (man : Man) (s t : State) (a b : ℕ) (p : Option Man) → Alike s t
    → LegalBy man s a b p → LegalBy man t a b p
legal_by man s t a b p like h = search (rules, moves)

pub can_move : (s t : State) → Alike s t → CanMove s → CanMove t
unfolding CanGo
can_move s t like h = (
  h.0,
  h.1,
  (
    h.2.0,
    h.2.1,
    (h.2.2.0, (h.2.2.1.0, legal_by h.2.2.1.0 s t h.0 h.2.0 h.2.2.0 like h.2.2.1.1)),
  ),
)
