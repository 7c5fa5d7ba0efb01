-- The steps along lines, and men that cover no king.
use Rattle.std.specs.Prelude.{◌≡◌, ℕ, ◌<◌, IsTrue, IsBitSet}
use Rattle.dgt_chess.specs.declared.lines.Line.{Line}
use Rattle.dgt_chess.specs.declared.pieces.Man.{Man}
use Rattle.dgt_chess.specs.declared.state.State.{State}
use Rattle.dgt_chess.specs.declared.listing.Mover.{Mover}
use Rattle.dgt_chess.specs.Attacks.{piece_at, piece_of}
use Rattle.dgt_chess.specs.Rules.{board, CanGo, Moves}

-- from one square of a line to the next
abbrev pub step : Line → ℕ
step Line.Rank = 1
step Line.File = 8
step Line.Falling = 9
step Line.Rising = 7

-- all moves of the man are legal
abbrev pub IsLoose : Man → State → ℕ → Type 0
IsLoose man state from = (to : ℕ) → to < 64 → Moves man state from to → CanGo state from to

-- a man of the side to move stands on its square, and is loose if it is said to be
pub record IsMover (state : State) (mover : Mover) : Type 0 where
  pub small : mover.from < 64
  pub own : piece_at (board state) mover.from ≡ piece_of state.turn mover.man
  pub loose : IsTrue mover.is_loose → IsLoose mover.man state mover.from

-- a man may go to each square of a set
abbrev pub AreGoals : State → ℕ → ℕ → Type 0
AreGoals state from goals = (to : ℕ) → to < 64 → IsBitSet goals to → CanGo state from to
