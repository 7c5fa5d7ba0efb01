-- A half-move while one piece is gone.
use Rattle.std.specs.Prelude.{◌≡◌, ◌≢◌, ◌<◌, ◌≤◌, ◌+◌, ℕ, true, List, Some, IfSome, slice_get, slice_set}
use Rattle.dgt_values.specs.declared.pieces.Piece.{Piece}
use Rattle.dgt_chess.specs.declared.pieces.Man.{Man}
use Rattle.dgt_chess.specs.declared.state.Move.{Move}
use Rattle.dgt_chess.specs.declared.state.State.{State}
use Rattle.dgt_chess.specs.Attacks.{other, piece_at, piece_of}
use Rattle.dgt_chess.specs.Rules.{board}
use Rattle.dgt_game.specs.declared.memory.Memory.{Memory}
use Rattle.dgt_game.specs.declared.node.Node.{Node}
use Rattle.dgt_game.specs.declared.node.Place.{Place}
use Rattle.dgt_game.specs.declared.node.Step.{Step}
use Rattle.dgt_game.specs.Lines.{IsMove}
use Rattle.dgt_game.specs.Memory.{step_at, steps}
use Rattle.dgt_game.specs.Results.{IsKing}
use Rattle.dgt_game.specs.Told.{LacksOne, as_shown}

-- The half-move leads from one state to the other. The picture lacks one piece of this, which stood
-- there before, too.
abbrev pub MovesWithout : State → Move → State → List Piece → ℕ → Type 0
MovesWithout state one new picture square =
    IsMove state one new × LacksOne picture new square
    × (piece_at (board state) square ≡ piece_at (board new) square)

-- some legal half-move does, with the piece of this square gone
abbrev pub CanBeGone : State → List Piece → ℕ → Type 0
CanBeGone state picture square =
    (one : Move) × ((new : State) × MovesWithout state one new picture square)

-- and with no other piece gone
abbrev pub IsOneGone : State → List Piece → Type 0
IsOneGone state picture =
    (square : ℕ) × CanBeGone state picture square
    × ((others : ℕ) → CanBeGone state picture others → others ≡ square)

-- the same from the step at a place
abbrev pub GoneFrom : Memory → Place → List Piece → Type 0
GoneFrom self place picture =
    (step : Step) × (step_at (steps self.line.items) (steps self.seen.items) place ≡ Some step)
    × IsOneGone step.state (as_shown step.is_turned picture)

-- a piece was gone for 300 ms, if one was
abbrev pub HasStayed : Node → Type 0
HasStayed node = node.lacks_one ≡ true → node.at + 300 ≤ node.left

-- so it was at the node before
abbrev pub AfterStayed : Memory → Node → Type 0
AfterStayed self node =
    (k : ℕ) → node.step.parent ≡ Place.Seen k → IfSome (slice_get self.seen.items k) HasStayed

-- ---- Laws

-- A piece of the other side that is gone, and no pawn, is the only one.
abbrev pub TheirsIsOnlyGone : Type 0
TheirsIsOnlyGone =
    (state : State) (picture : List Piece) (square : ℕ) (man : Man)
    → piece_at (board state) square ≡ piece_of (other state.turn) man → man ≢ Man.Pawn
    → CanBeGone state picture square → IsOneGone state picture

-- A piece that is only lifted isn't gone since a half-move.
abbrev pub LiftedIsNotGone : Type 0
LiftedIsNotGone =
    (state : State) (from square : ℕ) → from < 64
    → ¬ (CanBeGone state (slice_set (board state) from Piece.Empty) square)

-- only for bodies

-- an empty square of the picture has a piece in the state, which isn't a king
abbrev pub IsMissing : List Piece → State → ℕ → Type 0
IsMissing picture state square =
    (piece_at picture square ≡ Piece.Empty) × (piece_at (board state) square ≢ Piece.Empty)
    × ¬ (IsKing (piece_at (board state) square))
