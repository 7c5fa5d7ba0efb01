-- The half-move before the kings, which only the result shows.
use Rattle.std.specs.Prelude.{◌≡◌, ⊤, List}
use Rattle.dgt_values.specs.declared.pieces.Piece.{Piece}
use Rattle.dgt_chess.specs.declared.state.Move.{Move}
use Rattle.dgt_chess.specs.declared.state.State.{State}
use Rattle.dgt_chess.specs.Rules.{board}
use Rattle.dgt_game.specs.declared.unseen.Found.{Found}
use Rattle.dgt_game.specs.Lines.{IsMove}
use Rattle.dgt_game.specs.Results.{Explains}

-- a legal half-move leads to a state that explains the picture
abbrev pub ExplainsBy : List Piece → State → Move → State → Type 0
ExplainsBy picture state one new = IsMove state one new × Explains picture (board new)

-- and no other legal one does
abbrev pub OnlyExplains : List Piece → State → Move → State → Type 0
OnlyExplains picture state one new =
    ExplainsBy picture state one new
    × ((other : Move) (end : State) → ExplainsBy picture state other end → other ≡ one)

-- ---- Laws

-- **The half-move before the kings is the only one** that explains the picture: each legal one that
-- leads to a state that does is this one, and leads to the same state.
abbrev pub BeforeKingsIsOnly : Type 0
BeforeKingsIsOnly =
    (picture : List Piece) (state : State) (one other : Move) (new end : State)
    → OnlyExplains picture state one new → IsMove state other end → Explains picture (board end)
    → (other ≡ one) × (end ≡ new)

-- only for bodies

-- of the half-moves of a set, none explains the picture, or only this one, or perhaps several
abbrev pub FoundBy : (Move → Type 0) → List Piece → State → Found → Type 0
FoundBy First picture state Found.Nothing =
    (one : Move) (new : State) → First one → ¬ (ExplainsBy picture state one new)
FoundBy First picture state (Found.Only one new) =
    ExplainsBy picture state one new
    × ((other : Move) (end : State) → First other → ExplainsBy picture state other end
    → other ≡ one)
FoundBy First picture state Found.Several = ⊤

-- what is found in both of two sets
abbrev pub added : Found → Found → Found
added found Found.Nothing = found
added Found.Nothing (Found.Only one new) = Found.Only one new
added Found.Nothing Found.Several = Found.Several
added (Found.Only one new) (Found.Only other end) = Found.Several
added (Found.Only one new) Found.Several = Found.Several
added Found.Several (Found.Only other end) = Found.Several
added Found.Several Found.Several = Found.Several
