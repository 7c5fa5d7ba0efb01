-- How contracts see the state of a board, and what it is to send next.
use Rattle.std.specs.Prelude.{ℕ, ◌≤◌, List, length, option_map, Result}
use Rattle.dgt_values.specs.declared.refusals.NoRoom.{NoRoom}
use Rattle.dgt_values.specs.Board.{pieces_of, square_number}
use Rattle.dgt_values.specs.Bytes.{WritesPrefix}
use Rattle.dgt_message.specs.Content.{clock_message, clock_seen, Content}
use Rattle.dgt_message.specs.Encoding.{Encodes, encoding}
use Rattle.dgt_command.specs.Content.{CommandContent}
use Rattle.dgt_board.specs.declared.sending.TheConstants.{MAX_SENT}
use Rattle.dgt_board.specs.declared.sending.Due.{Due}
use Rattle.dgt_board.specs.declared.state.State.{State}
use Rattle.dgt_board.specs.State.{BoardState}
use Rattle.dgt_board.specs.Sending.{field_of, reply_message}

abbrev pub state_of : State → BoardState
state_of kept =
    record {
      squares = pieces_of kept.squares;
      clock = clock_seen kept.clock;
      mode = kept.mode;
      reported_squares = pieces_of kept.reported_squares;
      reported_clock = option_map clock_seen kept.reported_clock;
      times_owed = kept.times_owed;
      owed = kept.owed.items;
      identity = kept.identity;
    }

-- the command is no clock message
abbrev pub IsBare : CommandContent → Type 0
IsBare (CommandContent.ClockMessage message) = ⊥
IsBare command = Unit {0}

-- the message that reports what is due
abbrev pub due_message : BoardState → Due → Content
due_message board (Due.Reply reply) = reply_message board reply
due_message board (Due.Field square) = field_of board (square_number square)
due_message board Due.Times = clock_message board.clock

-- The message is written at the beginning of the slice, or the slice is too short. Its bytes encode
-- it, and are no more than the most bytes that a board sends.
pub record WritesMessage (message : Content) (old new : List ℕ) (r : Result ℕ NoRoom) : Type 0 where
  pub written : WritesPrefix (encoding message) old new r
  pub encodes : Encodes message (encoding message)
  pub short : length (encoding message) ≤ MAX_SENT
