-- A world as contracts see it: a board, a host, and the two lines of bytes between them.
use Rattle.std.specs.Prelude.{◌≡◌, ℕ, ◌+◌, List, [], ◌++◌, Bool, None, drop, length, nat_lt}
use Rattle.dgt_values.specs.declared.pieces.Piece.{Piece}
use Rattle.dgt_message.specs.Clock.{ClockState}
use Rattle.dgt_board.specs.State.{IdentityContent}
use Rattle.dgt_board.specs.Sending.{next_message}
use Rattle.dgt_board.specs.View.{BoardView, new_view}
use Rattle.dgt_host.specs.Host.{HostView, new_host}

-- the bytes in a line, the oldest first, and the line's capacity
pub record LineContents : Type 0 where
  pub bytes : List ℕ
  pub capacity : ℕ

abbrev pub line_holding : List ℕ → ℕ → LineContents
line_holding bytes capacity = record { bytes = bytes; capacity = capacity }

-- the line with these bytes appended
abbrev pub with_bytes : LineContents → List ℕ → LineContents
with_bytes line bytes = line_holding (line.bytes ++ bytes) line.capacity

-- the line without this many of its oldest bytes
abbrev pub without_first : LineContents → ℕ → LineContents
without_first line count = line_holding (drop count line.bytes) line.capacity

-- whether the line has too little room for these bytes
abbrev pub overflows : LineContents → List ℕ → Bool
overflows line bytes = nat_lt line.capacity (length line.bytes + length bytes)

pub record WorldView : Type 0 where
  pub board : BoardView
  pub host : HostView
  pub up : LineContents  -- from the board to the host
  pub down : LineContents  -- from the host to the board

abbrev pub world_of : BoardView → HostView → LineContents → LineContents → WorldView
world_of board host up down = record { board = board; host = host; up = up; down = down }

-- a new board, a new host, and two empty lines of these capacities
abbrev pub new_world : List Piece → ClockState → IdentityContent → ℕ → ℕ → WorldView
new_world position clock identity up down =
    record {
      board = new_view position clock identity;
      host = new_host;
      up = line_holding [] up;
      down = line_holding [] down;
    }

-- nothing is on the lines or half read, and the board has nothing to send
pub record IsQuietWorld (world : WorldView) : Type 0 where
  pub up : world.up.bytes ≡ []
  pub down : world.down.bytes ≡ []
  pub unread : world.host.unread ≡ []
  pub partial : world.board.partial ≡ []
  pub pending : next_message world.board.state ≡ None
