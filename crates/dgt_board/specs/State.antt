-- The state of a board, and what changes it.
use Rattle.std.specs.Prelude.{IsTrue, ℕ, ◌<◌, ◌≤◌, List, [], ◌∷◌, ◌++◌, length, map, All, Option, Some, None, option_to_list, unwrap_or, Bool, true, false, ◌&&◌, not, ◌==◌, if◌then◌else◌, slice_set}
use Rattle.std.specs.Option.{option_map_or}
use Rattle.dgt_values.specs.declared.pieces.Piece.{Piece}
use Rattle.dgt_message.specs.Clock.{ClockState, clock_eq}
use Rattle.dgt_command.specs.declared.ids.KnownId.{KnownId}
use Rattle.dgt_command.specs.Content.{ClockContent, CommandContent, EventContent, requested_kind}
use Rattle.dgt_command.specs.Ids.{id_number}
use Rattle.dgt_board.specs.declared.identities.TheConstants.{MAX_KEPT_BODY}
use Rattle.dgt_board.specs.declared.modes.Mode.{Mode}
use Rattle.dgt_board.specs.declared.replies.Reply.{Reply}

-- what a board reports of itself on request
pub record IdentityContent : Type 0 where
  pub serial : List ℕ
  pub trademark : List ℕ
  pub main : ℕ
  pub sub : ℕ
  pub battery : List ℕ
  pub clock_version : ℕ
  pub long_serial : List ℕ

-- the identity is short: no part of it makes a message longer than a dump
pub record IsShortIdentity (identity : IdentityContent) : Type 0 where
  pub serial : length identity.serial ≤ 64
  pub trademark : length identity.trademark ≤ 64
  pub battery : length identity.battery ≤ 64
  pub long_serial : length identity.long_serial ≤ 64

-- what a board reports of its clock is short
abbrev pub IsShortClock : ClockState → Type 0
IsShortClock (ClockState.times readings) = Unit {0}
IsShortClock (ClockState.no_clock absence) = length absence.raw ≤ 63

-- the bytes of a body that a board keeps
pub record IsKeptBody (body : List ℕ) : Type 0 where
  pub short : length body ≤ MAX_KEPT_BODY
  pub seven_bit : All (λ byte. byte < 128) body

pub record BoardState : Type 0 where
  pub squares : List Piece  -- from a8 to h1
  pub clock : ClockState
  pub mode : Mode
  pub reported_squares : List Piece  -- the squares as last reported
  pub reported_clock : Option ClockState  -- the clock as last reported
  pub times_owed : Bool  -- whether the clock is to be reported
  pub owed : List Reply  -- requested and not yet sent, the oldest first
  pub identity : IdentityContent

-- a new board
abbrev pub new_board : List Piece → ClockState → IdentityContent → BoardState
new_board position clock identity =
    record {
      squares = position;
      clock = clock;
      mode = Mode.Idle;
      reported_squares = position;
      reported_clock = None;
      times_owed = false;
      owed = [];
      identity = identity;
    }

-- the board after its line is lost: as new, except for its squares, its clock and its identity
abbrev pub after_line_lost : BoardState → BoardState
after_line_lost board = new_board board.squares board.clock board.identity

-- whether a mode reports the squares that differ
abbrev pub updates : Mode → Bool
updates Mode.Idle = false
updates _ = true

-- whether a mode also reports the clock
abbrev pub follows_clock : Mode → Bool
follows_clock Mode.Update = true
follows_clock Mode.UpdateNice = true
follows_clock _ = false

-- the clock is owed only in a mode that reports it
abbrev pub OwesByItsMode : BoardState → Type 0
OwesByItsMode board = IsTrue board.times_owed → IsTrue (follows_clock board.mode)

-- whether the clock was last reported as it is
abbrev pub is_reported : Option ClockState → ClockState → Bool
is_reported None clock = false
is_reported (Some reported) clock = clock_eq reported clock

-- the board after a piece is put on a square
abbrev pub after_change : BoardState → ℕ → Piece → BoardState
after_change board square piece = record board { squares = slice_set board.squares square piece }

-- whether a new reading of the clock is then owed, by the mode and by whether it was reported
abbrev pub owed_when_handed : Mode → Bool → Bool
owed_when_handed Mode.Update reported = true
owed_when_handed Mode.UpdateNice reported = not reported
owed_when_handed _ reported = false

-- the board after a new reading of its clock
abbrev pub after_hand_clock : BoardState → ClockState → BoardState
after_hand_clock board clock =
    record board {
      clock = clock;
      times_owed = owed_when_handed board.mode (is_reported board.reported_clock clock);
    }

-- ---- commands

-- the mode that a command sets, if it sets one
abbrev pub command_mode : CommandContent → Option Mode
command_mode CommandContent.Reset = Some Mode.Idle
command_mode CommandContent.Update = Some Mode.Update
command_mode CommandContent.UpdateBoard = Some Mode.UpdateBoard
command_mode CommandContent.UpdateNice = Some Mode.UpdateNice
command_mode _ = None

-- The acknowledgement of a clock message. If the message requests the version, it carries the
-- clock's version. A board without a clock acknowledges nothing.
abbrev pub acknowledgements : ClockState → IdentityContent → ClockContent → List Reply
acknowledgements (ClockState.times readings) identity message =
    let asked = message.id == id_number KnownId.Version in
    Reply.Ack message.id (if asked then identity.clock_version else 0x00) ∷ []
acknowledgements (ClockState.no_clock absence) identity message = []

-- the replies that a command adds
abbrev pub replies_to : BoardState → CommandContent → List Reply
replies_to board CommandContent.Clock = Reply.Clock ∷ []
replies_to board (CommandContent.ClockMessage message) =
    acknowledgements board.clock board.identity message
replies_to board command = map Reply.Of (option_to_list (requested_kind command))

-- The board after a command. In a new mode that follows the clock, the clock is owed if it differs
-- from what was reported, whatever was owed before.
abbrev pub after_command : BoardState → CommandContent → BoardState
after_command board command =
    record board {
      mode = unwrap_or (command_mode command) board.mode;
      times_owed = option_map_or
          (λ mode. follows_clock mode && not (is_reported board.reported_clock board.clock))
          (command_mode command) board.times_owed;
      owed = board.owed ++ replies_to board command;
    }

-- the board after an event: a fault changes nothing
abbrev pub effect : BoardState → EventContent → BoardState
effect board (EventContent.Read command) = after_command board command
effect board _ = board

-- the board after these events, in order
abbrev pub effects : BoardState → List EventContent → BoardState
effects board [] = board
effects board (event ∷ events) = effects (effect board event) events
