-- What a board has to send, in order, and how sending changes the board.
use Rattle.std.specs.Prelude.{ℕ, List, [], ◌∷◌, ◌++◌, length, map, filter, drop, Option, Some, Bool, false, not, ◌==◌, if◌then◌else◌, slice_get, slice_index_or, slice_set}
use Rattle.std.specs.List.{range_with_len}
use Rattle.dgt_values.specs.declared.kinds.Kind.{Kind}
use Rattle.dgt_values.specs.declared.pieces.Piece.{Piece}
use Rattle.dgt_values.specs.Board.{piece_code}
use Rattle.dgt_message.specs.declared.known.KnownCode.{KnownCode}
use Rattle.dgt_message.specs.Clock.{ClockState}
use Rattle.dgt_message.specs.Content.{clock_message, Content, carried_as}
use Rattle.dgt_board.specs.declared.modes.Mode.{Mode}
use Rattle.dgt_board.specs.declared.replies.Reply.{Reply}
use Rattle.dgt_board.specs.State.{BoardState, updates}

-- the message of an owed reply, in the board's present state
abbrev pub reply_message : BoardState → Reply → Content
reply_message board (Reply.Of Kind.Dump) = Content.dump board.squares
reply_message board (Reply.Of Kind.Serial) = carried_as KnownCode.Serial board.identity.serial
reply_message board (Reply.Of Kind.Trademark) =
    carried_as KnownCode.Trademark board.identity.trademark
reply_message board (Reply.Of Kind.Version) =
    carried_as KnownCode.Version (board.identity.main ∷ board.identity.sub ∷ [])
reply_message board (Reply.Of Kind.Battery) = carried_as KnownCode.Battery board.identity.battery
reply_message board (Reply.Of Kind.LongSerial) =
    carried_as KnownCode.LongSerial board.identity.long_serial
reply_message board Reply.Clock = clock_message board.clock
reply_message board (Reply.Ack id version) =
    Content.ack (record { ack = 0x10 ∷ id ∷ version ∷ 0x00 ∷ []; status = 0x00 })

abbrev pub piece_on : List Piece → ℕ → Piece
piece_on squares square = slice_index_or squares square Piece.Empty

-- whether a square differs from what was reported
abbrev pub differs : BoardState → ℕ → Bool
differs board square =
    let reported = piece_code (piece_on board.reported_squares square) in
    not (reported == piece_code (piece_on board.squares square))

-- the 64 squares by number
unfoldable pub every_square : List ℕ
every_square = range_with_len 0 64

-- the squares that an update mode has yet to report, by number
abbrev pub unreported_squares : BoardState → List ℕ
unreported_squares board = if updates board.mode then filter (differs board) every_square else []

abbrev pub field_of : BoardState → ℕ → Content
field_of board square = Content.field square (piece_on board.squares square)

abbrev pub clock_news : BoardState → List Content
clock_news board = if board.times_owed then clock_message board.clock ∷ [] else []

-- what is to be sent in the board's present state: the owed replies, the squares that differ, then
-- the clock
abbrev pub pending_messages : BoardState → List Content
pending_messages board =
    map (reply_message board) board.owed
    ++ (map (field_of board) (unreported_squares board) ++ clock_news board)

-- the next message, if anything is to be sent
abbrev pub next_message : BoardState → Option Content
next_message board = slice_get (pending_messages board) 0

-- how many messages are left to send
abbrev pub left_to_send : BoardState → ℕ
left_to_send board = length (pending_messages board)

-- how many there would be if the mode asked for the squares
abbrev pub backlog : BoardState → ℕ
backlog board = left_to_send (record board { mode = Mode.Update })

-- ---- how sending changes the board

abbrev pub reported_squares_after : BoardState → Content → List Piece
reported_squares_after board (Content.dump pieces) = board.squares
reported_squares_after board (Content.field square piece) =
    slice_set board.reported_squares square (piece_on board.squares square)
reported_squares_after board _ = board.reported_squares

abbrev pub reported_clock_after : BoardState → Content → Option ClockState
reported_clock_after board (Content.times readings) = Some board.clock
reported_clock_after board (Content.no_clock absence) = Some board.clock
reported_clock_after board _ = board.reported_clock

abbrev pub times_owed_after : BoardState → Content → Bool
times_owed_after board (Content.times readings) = false
times_owed_after board (Content.no_clock absence) = false
times_owed_after board _ = board.times_owed

-- the board after it has sent a message, except for the replies that it owes
abbrev pub after_reporting : BoardState → Content → BoardState
after_reporting board message =
    record board {
      reported_squares = reported_squares_after board message;
      reported_clock = reported_clock_after board message;
      times_owed = times_owed_after board message;
    }

-- the board after sending its next message: owed replies are first
abbrev pub after_sending : BoardState → Content → BoardState
after_sending board message = record (after_reporting board message) { owed = drop 1 board.owed }
