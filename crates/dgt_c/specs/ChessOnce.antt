-- Structs and texts of chess have one meaning, and calls leave one result.
use Rattle.std.specs.Prelude.{◌≡◌, ◌↔◌, ◌⊎◌, ℕ, ◌<◌, List, slice_index, replicate, All, Bool, IsBitSet, IsTrue}
use Rattle.dgt_values.specs.Board.{square_number}
use Rattle.dgt_chess.specs.declared.possible.Impossible.{Impossible}
use Rattle.dgt_chess.specs.declared.state.Move.{Move}
use Rattle.dgt_chess.specs.declared.state.State.{State}
use Rattle.dgt_chess.specs.Rules.{CanGo, Legal}
use Rattle.dgt_c.specs.Chess.{AreGoals, HasParts, HasStatus, IsState, IsStateThat, LeadsTo, Plays, RefusesState, SaysLegal, SaysMove, SaysState}
use Rattle.dgt_c.specs.Starting.{ArePieces}
use Rattle.dgt_c.specs.ChessTexts.{PutsFen, PutsSan, ReadsFen}
use Rattle.dgt_c.specs.declared.header.DgtChessFenRead.{DgtChessFenRead}
use Rattle.dgt_c.specs.declared.header.DgtChessMove.{DgtChessMove}
use Rattle.dgt_c.specs.declared.header.DgtChessState.{DgtChessState}

-- ---- structs

abbrev pub OneState : Type 0
OneState =
    (said : DgtChessState) (first second : State) → SaysState said first → SaysState said second
    → first ≡ second

abbrev pub OneStateStruct : Type 0
OneStateStruct =
    (first second : DgtChessState) (state : State) → SaysState first state → SaysState second state
    → first ≡ second

abbrev pub OneMove : Type 0
OneMove =
    (said : DgtChessMove) (first second : Move) → SaysMove said first → SaysMove said second
    → first ≡ second

abbrev pub OneMoveStruct : Type 0
OneMoveStruct =
    (first second : DgtChessMove) (one : Move) → SaysMove first one → SaysMove second one
    → first ≡ second

-- the struct describes a state of a kind exactly if the one that it describes is of this kind
abbrev pub OneKind : Type 0
OneKind =
    (said : DgtChessState) (is : State → Bool) (state : State) → SaysState said state
    → IsStateThat said (λ it. IsTrue (is it)) ↔ IsTrue (is state)

-- the values of members
abbrev pub MembersAreListed : Type 0
MembersAreListed =
    (said : DgtChessState) → HasParts said
    → ArePieces said.pieces × (said.turn < 2) × All (λ flag. flag < 2) said.rights
    × ((said.passed < 64) ⊎ (said.passed ≡ 255)) × (said.reserved ≡ replicate 6 0)

-- a struct has one status
abbrev pub OneStatus : Type 0
OneStatus =
    (said : DgtChessState) (first second : ℕ) → HasStatus said first → HasStatus said second
    → first ≡ second

-- the statuses by their numbers
abbrev pub StatusesAre : Type 0
StatusesAre =
    (said : DgtChessState)
    → (HasStatus said 0 → IsState said) × (HasStatus said 1 → RefusesState said Impossible.Kings)
    × (HasStatus said 2 → RefusesState said Impossible.Extra)
    × (HasStatus said 3 → RefusesState said Impossible.Pawn)
    × (HasStatus said 4 → RefusesState said Impossible.Check)
    × (HasStatus said 5 → RefusesState said Impossible.Rights)
    × (HasStatus said 6 → RefusesState said Impossible.Passed)
    × (HasStatus said 7 → RefusesState said Impossible.Number)
    × (HasStatus said 8 → ¬ (HasParts said))

-- what is refused for a reason has parts, and is no state
abbrev pub RefusedAreNone : Type 0
RefusedAreNone =
    (said : DgtChessState) (why : Impossible) → RefusesState said why
    → HasParts said × ¬ (IsState said)

-- ---- calls

abbrev pub LegalAreLegal : Type 0
LegalAreLegal =
    (said : DgtChessState) (move : DgtChessMove) (state : State) (one : Move)
    → SaysState said state → SaysMove move one → SaysLegal said move
    → Legal state (square_number one.from) (square_number one.to) one.promotion

-- a move that is made is legal, and leads to one struct
abbrev pub OnePlay : Type 0
OnePlay =
    (said first second : DgtChessState) (move : DgtChessMove) → Plays said move first
    → Plays said move second → first ≡ second

abbrev pub PlayedAreLegal : Type 0
PlayedAreLegal =
    (said new : DgtChessState) (move : DgtChessMove) → Plays said move new → SaysLegal said move

abbrev pub GoalsAreMoves : Type 0
GoalsAreMoves =
    (state : State) (goals : List ℕ) (from to : ℕ) → from < 64 → to < 64 → AreGoals state goals
    → IsBitSet (slice_index goals from) to ↔ CanGo state from to

abbrev pub OneLead : Type 0
OneLead =
    (said : DgtChessState) (codes : List ℕ) (first second : Move) → LeadsTo said codes first
    → LeadsTo said codes second → first ≡ second

-- ---- texts

abbrev pub OneFenRead : Type 0
OneFenRead =
    (text : List ℕ) (old first second : DgtChessState) (one other : DgtChessFenRead)
    → ReadsFen text old first one → ReadsFen text old second other
    → (first ≡ second) × (one ≡ other)

abbrev pub OneFenPut : Type 0
OneFenPut =
    (said : DgtChessState) (old first second : List ℕ) → PutsFen said old first
    → PutsFen said old second → first ≡ second

abbrev pub OneSanPut : Type 0
OneSanPut =
    (said : DgtChessState) (move : DgtChessMove) (old first second : List ℕ)
    → PutsSan said move old first → PutsSan said move old second → first ≡ second
