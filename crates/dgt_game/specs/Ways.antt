-- The legal lines of some half-moves that lead to the pieces of a picture: none, one or several.
use Rattle.std.specs.Prelude.{◌≡◌, ◌≢◌, ◌<◌, ⊤, ℕ, List, [], ◌∷◌, length, Option}
use Rattle.dgt_values.specs.declared.pieces.Piece.{Piece}
use Rattle.dgt_values.specs.Board.{square_number}
use Rattle.dgt_chess.specs.declared.pieces.Man.{Man}
use Rattle.dgt_chess.specs.declared.state.State.{State}
use Rattle.dgt_chess.specs.declared.state.Move.{Move}
use Rattle.dgt_chess.specs.Rules.{board}
use Rattle.dgt_game.specs.declared.event.Moves.{Moves}
use Rattle.dgt_game.specs.declared.ways.Ways.{Ways}
use Rattle.dgt_game.specs.Lines.{IsLine, IsOnly, NoLine, moves_of}

-- a legal line of this many half-moves leads to the pieces, and to this state
abbrev pub IsWay : ℕ → State → List Piece → List Move → State → Type 0
IsWay halves state pieces moves new =
    (length moves ≡ halves) × IsLine state moves new × (board new ≡ pieces)

-- what is found are the lines of this many half-moves that lead to the pieces
abbrev pub AreWays : ℕ → State → List Piece → Ways → Type 0
AreWays halves state pieces Ways.Nothing = NoLine halves state pieces
AreWays halves state pieces (Ways.Only moves new) =
    IsWay halves state pieces (moves_of moves) new × IsOnly state (moves_of moves) pieces
AreWays halves state pieces (Ways.Several new) =
    (one other : List Move) × IsWay halves state pieces one new
    × ((end : State) × IsWay halves state pieces other end) × (one ≢ other)

-- the first of these half-moves is one of a set
abbrev pub BeginsIn : (Move → Type 0) → List Move → Type 0
BeginsIn First [] = ⊥
BeginsIn First (one ∷ moves) = First one

-- what is found are those of these lines whose first half-move is one of a set
abbrev pub AreWaysBy : (Move → Type 0) → ℕ → State → List Piece → Ways → Type 0
AreWaysBy First halves state pieces Ways.Nothing =
    (moves : List Move) (new : State) → IsWay halves state pieces moves new
    → ¬ (BeginsIn First moves)
AreWaysBy First halves state pieces (Ways.Only moves new) =
    IsWay halves state pieces (moves_of moves) new × BeginsIn First (moves_of moves)
    × ((others : List Move) (end : State) → IsWay halves state pieces others end
    → BeginsIn First others → others ≡ moves_of moves)
AreWaysBy First halves state pieces (Ways.Several new) =
    (one other : List Move) × (IsWay halves state pieces one new × BeginsIn First one)
    × ((end : State) × IsWay halves state pieces other end × BeginsIn First other)
    × (one ≢ other)

-- between two squares, and with one of these promotions
abbrev pub Ends : ℕ → ℕ → (Option Man → Type 0) → Move → Type 0
Ends from to Promotion one =
    (square_number one.from ≡ from) × (square_number one.to ≡ to) × Promotion one.promotion

-- what is found in two sets of lines that share none
abbrev pub both : Ways → Ways → Ways
both ways Ways.Nothing = ways
both Ways.Nothing other = other
both (Ways.Only moves new) other = Ways.Several new
both (Ways.Several new) other = Ways.Several new

abbrev pub IsSeveral : Ways → Type 0
IsSeveral (Ways.Several new) = ⊤
IsSeveral ways = ⊥

-- a line that is found has room for one more half-move
abbrev pub IsShort : Ways → Type 0
IsShort (Ways.Only moves new) = length (moves_of moves) < 4
IsShort ways = ⊤

-- the same lines after a half-move
abbrev pub Follows : Move → Ways → Ways → Type 0
Follows one (Ways.Only moves new) ways =
    (all : Moves) × (ways ≡ Ways.Only all new) × (moves_of all ≡ one ∷ moves_of moves)
Follows one ways new = new ≡ ways
