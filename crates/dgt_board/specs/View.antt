-- How contracts see a board, and what `take` and `poll` do to it.
use Rattle.std.specs.Prelude.{◌≡◌, ℕ, ◌<◌, ◌≤◌, List, [], ◌++◌, length, drop, Option, Some, None}
use Rattle.dgt_values.specs.declared.pieces.Piece.{Piece}
use Rattle.dgt_message.specs.Clock.{ClockState}
use Rattle.dgt_message.specs.Content.{Content}
use Rattle.dgt_message.specs.Encoding.{Encodes, encoding}
use Rattle.dgt_command.specs.Content.{EventContent}
use Rattle.dgt_command.specs.Words.{Divides, IsPartial}
use Rattle.dgt_board.specs.declared.state.TheConstants.{MAX_OWED}
use Rattle.dgt_board.specs.declared.sending.Polled.{Polled}
use Rattle.dgt_board.specs.State.{BoardState, IdentityContent, after_line_lost, effect, effects, new_board}
use Rattle.dgt_board.specs.Sending.{after_sending}

pub record BoardView : Type 0 where
  pub state : BoardState
  pub partial : List ℕ  -- the bytes of an unfinished command

-- a new board, which has taken no bytes
abbrev pub new_view : List Piece → ClockState → IdentityContent → BoardView
new_view position clock identity =
    record { state = new_board position clock identity; partial = [] }

-- the board after its line is lost, and with it the bytes of an unfinished command
abbrev pub view_after_line_lost : BoardView → BoardView
view_after_line_lost board = record { state = after_line_lost board.state; partial = [] }

-- facts of each board
pub record IsBoard (board : BoardView) : Type 0 where
  pub squares : length board.state.squares ≡ 64
  pub reported_squares : length board.state.reported_squares ≡ 64
  pub few_owed : length board.state.owed ≤ MAX_OWED
  pub partial : IsPartial board.partial

-- the board after bytes that complete this event at the last one, if there is an event
abbrev pub after_bytes : BoardView → List ℕ → Option EventContent → BoardView
after_bytes board bytes None = record board { partial = board.partial ++ bytes }
after_bytes board bytes (Some event) = record { state = effect board.state event; partial = [] }

-- The board has taken these bytes: after its unfinished command they divide into events and a rest,
-- and each event took effect.
pub record HasTaken (before : BoardView) (bytes : List ℕ) (after : BoardView) : Type 0 where
  pub events : List EventContent
  pub divided : Divides (before.partial ++ bytes) events after.partial
  pub state : after.state ≡ effects before.state events

-- what `poll` returns for the next message: the board before and after, the slice before and after
abbrev pub Polls : Polled → Option Content → BoardView → BoardView → List ℕ → List ℕ → Type 0
Polls Polled.Nothing None before after old new = (after ≡ before) × (new ≡ old)
Polls (Polled.NeedRoom need) (Some message) before after old new =
    (need ≡ length (encoding message)) × (length old < need) × (after ≡ before) × (new ≡ old)
Polls (Polled.Wrote count) (Some message) before after old new =
    (count ≡ length (encoding message)) × (count ≤ length old)
    × (new ≡ encoding message ++ drop count old) × Encodes message (encoding message)
    × (after ≡ record before { state = after_sending before.state message })
Polls _ _ before after old new = ⊥
