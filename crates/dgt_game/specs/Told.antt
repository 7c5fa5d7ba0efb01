-- What may be reported.
use Rattle.std.specs.Prelude.{◌≡◌, ◌≢◌, ◌<◌, ◌⊎◌, ℕ, ⊤, Bool, true, false, List, [], ◌∷◌, Contains, length, reverse, slice_set}
use Rattle.dgt_values.specs.declared.pieces.Piece.{Piece}
use Rattle.dgt_chess.specs.declared.pieces.Man.{Man}
use Rattle.dgt_chess.specs.declared.state.State.{State}
use Rattle.dgt_chess.specs.Attacks.{piece_at, piece_of}
use Rattle.dgt_chess.specs.Rules.{IsStart, board}
use Rattle.dgt_game.specs.declared.event.Event.{Event}
use Rattle.dgt_game.specs.Lines.{IsMove, IsLine, IsOnly, moves_of}
use Rattle.dgt_game.specs.Results.{EndsShown, IsKing}

-- a state reported, the half-moves to it from the one before, and whether the board is turned
pub record Told : Type 0 where
  pub state : State
  pub halves : ℕ
  pub is_turned : Bool

-- pieces as the board shows them: on a board turned by 180 degrees, the squares run backwards
abbrev pub as_shown : Bool → List Piece → List Piece
as_shown true pieces = reverse pieces
as_shown false pieces = pieces

abbrev pub told_pieces : Told → List Piece
told_pieces told = as_shown told.is_turned (board told.state)

-- some legal line of this many half-moves
unfoldable pub Joins : ℕ → State → State → Type 0
Joins count state new = (moves : List _) × (length moves ≡ count) × IsLine state moves new

-- The line after an event, if that is legal. A line is what was reported of a game, the last
-- state first.
abbrev pub Leads : List Told → Event → List Told → Type 0
Leads line (Event.Begun state is_turned) new =
    new ≡ record { state = state; halves = 0; is_turned = is_turned } ∷ []
Leads (last ∷ line) (Event.Made one) new =
    (state : State) × IsMove last.state one state
    × (new ≡ record { state = state; halves = 1; is_turned = last.is_turned } ∷ last ∷ line)
Leads (last ∷ line) (Event.Unseen moves) new =
    (state : State) × IsLine last.state (moves_of moves) state
    × IsOnly last.state (moves_of moves) (board state)
    × (new ≡ record {
      state = state;
      halves = length (moves_of moves);
      is_turned = last.is_turned;
    } ∷ last ∷ line)
Leads (last ∷ line) (Event.Gap state count) new =
    Joins count last.state state
    × (new ≡ record { state = state; halves = count; is_turned = last.is_turned } ∷ last ∷ line)
Leads (last ∷ line) (Event.Back count stays) new =
    (line ≢ []) × (count ≡ last.halves) × (new ≡ line)
Leads line (Event.Ended result) new = new ≡ line
Leads line (Event.Lost squares) new = new ≡ line
Leads line Event.Found new = new ≡ line
Leads [] _ new = ⊥

-- all events in turn are legal, and lead from the one line to the other
abbrev pub IsLegalTold : List Told → List Event → List Told → Type 0
IsLegalTold line [] new = new ≡ line
IsLegalTold line (event ∷ events) new =
    (next : List Told) × Leads line event next × IsLegalTold next events new

-- a picture lacks at most pieces of the side to move, which are in hands
abbrev pub LacksMen : List Piece → State → Type 0
LacksMen picture state =
    (k : ℕ) → k < 64 → (piece_at picture k ≡ piece_at (board state) k)
    ⊎ ((piece_at picture k ≡ Piece.Empty)
    × ((man : Man) × (piece_at (board state) k ≡ piece_of state.turn man)))

-- it lacks the piece of one square, which isn't a king, and shows all else
abbrev pub LacksOne : List Piece → State → ℕ → Type 0
LacksOne picture state square =
    (square < 64) × (piece_at (board state) square ≢ Piece.Empty)
    × ¬ (IsKing (piece_at (board state) square))
    × (picture ≡ slice_set (board state) square Piece.Empty)

-- a picture lacks at most pieces that are in hands, or one piece that is gone
abbrev pub IsHeld : List Piece → State → Type 0
IsHeld picture state =
    LacksMen picture state ⊎ ((square : ℕ) × LacksOne picture state square)

-- The board has shown the state's position, or after one half-move all but what is held, or a
-- result by kings and else only its pieces. Or a line begins with the state in which games do.
unfoldable pub WasShown : List (List Piece) → Told → Type 0
WasShown shown told =
    Contains shown (told_pieces told)
    ⊎ ((told.halves ≡ 1) × ((picture : List Piece) × Contains shown picture
    × (IsHeld (as_shown told.is_turned picture) told.state
    ⊎ EndsShown (as_shown told.is_turned picture) told.state)))
    ⊎ ((told.halves ≡ 0) × IsStart told.state)

-- each position of the line was shown
abbrev pub IsShown : List (List Piece) → List Told → Type 0
IsShown shown [] = ⊤
IsShown shown (told ∷ line) = WasShown shown told × IsShown shown line
