-- A board, a host, the messages and commands under way between them, and what may happen to them,
-- without bytes and buffers.
use Rattle.std.specs.Prelude.{ℕ, List, [], ◌∷◌, ◌++◌, Option, None, ◌&&◌, if◌then◌else◌}
use Rattle.std.specs.Prelude.{map, option_to_list}
use Rattle.dgt_values.specs.declared.pieces.Piece.{Piece}
use Rattle.dgt_values.specs.declared.kinds.Kind.{Kind}
use Rattle.dgt_message.specs.Content.{Content, clock_message, answered_kind}
use Rattle.dgt_message.specs.Clock.{ClockState}
use Rattle.dgt_command.specs.Content.{CommandContent, EventContent, requested_kind}
use Rattle.dgt_command.specs.Words.{IsNoiseList}
use Rattle.dgt_board.specs.declared.replies.Reply.{Reply as OwedReply}
use Rattle.dgt_board.specs.State.{IdentityContent, BoardState, new_board, after_change, after_hand_clock, after_line_lost, updates, effect}
use Rattle.dgt_board.specs.Sending.{after_reporting, differs, field_of, reply_message}
use Rattle.dgt_message.specs.Picture.{clock_after, picture_after}
use Rattle.dgt_host.specs.Host.{awaited_after}

pub record MachineState : Type 0 where
  pub board : BoardState
  pub up : List Content  -- sent by the board and not yet heard, the oldest first
  pub down : List EventContent  -- sent to the board and not yet taken, the oldest first
  pub picture : Option (List Piece)
  pub host_clock : Option ClockState
  pub awaited : List Kind

pub data Move : Type 0 where
  -- a piece is put on a square of the board, or removed from it
  Change : (square : ℕ) (piece : Piece) → Move
  -- the board reads its clock
  HandClock : (clock : ClockState) → Move
  -- the host sends a command
  Ask : (command : CommandContent) → Move
  -- the board takes the oldest command under way
  Take : Move
  -- the board sends the oldest reply that it owes
  Reply : Move
  -- the board sends one square that differs from what it reported
  Report : (square : ℕ) → Move
  -- the board sends its clock
  ReportClock : Move
  -- the host hears the oldest message under way
  Hear : Move
  -- both sides lose the line, and everything under way on it
  Break : Move
  -- Only the host loses the line and everything under way on it, and starts over. What the board
  -- finds on the line before the new requests is noise.
  HostBreak : (noise : List EventContent) → IsNoiseList noise → Move

abbrev pub IsHostBreak : Move → Type 0
IsHostBreak (Move.HostBreak noise is_noise) = Unit {0}
IsHostBreak _ = ⊥

-- a move by which the board sends something
abbrev pub IsSending : Move → Type 0
IsSending Move.Reply = Unit {0}
IsSending (Move.Report square) = Unit {0}
IsSending Move.ReportClock = Unit {0}
IsSending _ = ⊥

-- a board, a new host, and nothing under way
abbrev pub state_of_board : BoardState → MachineState
state_of_board board =
    record {
      board = board;
      up = [];
      down = [];
      picture = None;
      host_clock = None;
      awaited = [];
    }

-- a new board and a new host
abbrev pub new_state : List Piece → ClockState → IdentityContent → MachineState
new_state position clock identity = state_of_board (new_board position clock identity)

-- the requests of a host that starts over: the updates, and the whole board
abbrev pub commands_anew : List CommandContent
commands_anew = CommandContent.UpdateBoard ∷ CommandContent.Dump ∷ []

-- ---- the effect of a move: one that can't happen changes nothing

-- the board sends a message
abbrev pub after_reported : MachineState → Content → MachineState
after_reported x message =
    record x { board = after_reporting x.board message; up = x.up ++ message ∷ [] }

-- the first of these commands is taken
abbrev pub after_take : MachineState → List EventContent → MachineState
after_take x [] = x
after_take x (event ∷ later) = record x { board = effect x.board event; down = later }

-- the first of these replies is sent
abbrev pub after_reply : MachineState → List OwedReply → MachineState
after_reply x [] = x
after_reply x (reply ∷ later) =
    after_reported (record x { board = record x.board { owed = later } })
    (reply_message x.board reply)

-- the first of these messages is heard
abbrev pub after_hear : MachineState → List Content → MachineState
after_hear x [] = x
after_hear x (message ∷ later) =
    record x {
      up = later;
      picture = picture_after x.picture message;
      host_clock = clock_after x.host_clock message;
      awaited = awaited_after x.awaited (answered_kind message);
    }

abbrev pub after_move : MachineState → Move → MachineState
after_move x (Move.Change square piece) = record x { board = after_change x.board square piece }
after_move x (Move.HandClock clock) = record x { board = after_hand_clock x.board clock }
after_move x (Move.Ask command) =
    record x {
      down = x.down ++ EventContent.Read command ∷ [];
      awaited = x.awaited ++ option_to_list (requested_kind command);
    }
after_move x Move.Take = after_take x x.down
after_move x Move.Reply = after_reply x x.board.owed
after_move x (Move.Report square) =
    if updates x.board.mode && differs x.board square
    then after_reported x (field_of x.board square) else x
after_move x Move.ReportClock =
    if x.board.times_owed then after_reported x (clock_message x.board.clock) else x
after_move x Move.Hear = after_hear x x.up
after_move x Move.Break = state_of_board (after_line_lost x.board)
after_move x (Move.HostBreak noise is_noise) =
    record (state_of_board x.board) {
      down = noise ++ map EventContent.Read commands_anew;
      awaited = Kind.Dump ∷ [];
    }

abbrev pub after_moves : MachineState → List Move → MachineState
after_moves x [] = x
after_moves x (move ∷ moves) = after_moves (after_move x move) moves
