-- The content of a message, without the address of its bytes.
use Rattle.std.specs.Prelude.{◌≡◌, ℕ, ◌<◌, ◌≤◌, List, [], ◌∷◌, length, map, Option, Some, None}
use Rattle.dgt_values.specs.declared.bodies.TheConstants.{MAX_BODY}
use Rattle.dgt_values.specs.declared.kinds.Kind.{Kind}
use Rattle.dgt_values.specs.declared.pieces.Piece.{Piece}
use Rattle.dgt_values.specs.Board.{pieces_of, square_number}
use Rattle.dgt_values.specs.Bytes.{body_bytes, number, AreSevenBit}
use Rattle.dgt_message.specs.declared.clock.Clock.{Clock}
use Rattle.dgt_message.specs.declared.clock.ClockAck.{ClockAck}
use Rattle.dgt_message.specs.declared.clock.NoClock.{NoClock}
use Rattle.dgt_message.specs.declared.clock.Times.{Times}
use Rattle.dgt_message.specs.declared.known.KnownCode.{KnownCode}
use Rattle.dgt_message.specs.declared.message.Message.{Message}
use Rattle.dgt_message.specs.declared.other.OtherCode.{OtherCode}
use Rattle.dgt_message.specs.declared.readings.Reading.{Reading}
use Rattle.dgt_message.specs.declared.readings.Status.{Status}
use Rattle.dgt_message.specs.Clock.{Time, Times as BothTimes, Absence, Answer, ClockState, absence_of, time_of, times_of, AreTimes, IsAbsence, IsAck}
use Rattle.dgt_message.specs.Code.{known_number, known_with, HasSize}
use Rattle.dgt_message.specs.Layout.{Layout, layout_of}

pub data Content : Type 0 where
  dump : (pieces : List Piece) → Content
  field : (square : ℕ) (piece : Piece) → Content
  times : (readings : BothTimes) → Content
  no_clock : (absence : Absence) → Content
  ack : (answer : Answer) → Content
  carried : (code : ℕ) (body : List ℕ) → Content

-- the body of a known code, carried unread
abbrev pub carried_as : KnownCode → List ℕ → Content
carried_as code body = carried (known_number code) body

-- how clauses see the values of the program
abbrev pub status_code : Status → ℕ
status_code status = number status.code

abbrev pub time_seen : Reading → Time
time_seen reading = time_of reading.hours reading.minutes reading.seconds reading.flags

abbrev pub times_seen : Times → BothTimes
times_seen t = times_of (time_seen t.first) (time_seen t.second) (status_code t.status)

abbrev pub absence_seen : NoClock → Absence
absence_seen absence = absence_of (map number absence.raw) (status_code absence.status)

abbrev pub clock_seen : Clock → ClockState
clock_seen (Clock.Times readings) = ClockState.times (times_seen readings)
clock_seen (Clock.NoClock absence) = ClockState.no_clock (absence_seen absence)

abbrev pub answer_seen : ClockAck → Answer
answer_seen answer = record { ack = answer.ack; status = number answer.status }

abbrev pub code_number : OtherCode → ℕ
code_number other = number other.code

abbrev pub content : Message → Content
content (Message.Dump position) = dump (pieces_of position)
content (Message.Field square piece) = field (square_number square) piece
content (Message.Times readings) = times (times_seen readings)
content (Message.NoClock absence) = no_clock (absence_seen absence)
content (Message.Ack answer) = ack (answer_seen answer)
content (Message.Serial digits) = carried_as KnownCode.Serial (map number digits)
content (Message.Trademark body) = carried_as KnownCode.Trademark (body_bytes body)
content (Message.Version main sub) =
    carried_as KnownCode.Version (number main ∷ number sub ∷ [])
content (Message.Battery body) = carried_as KnownCode.Battery (body_bytes body)
content (Message.LongSerial body) = carried_as KnownCode.LongSerial (body_bytes body)
content (Message.Other other body) = carried (code_number other) (body_bytes body)

-- the message that reports the clock
abbrev pub clock_message : ClockState → Content
clock_message (ClockState.times readings) = times readings
clock_message (ClockState.no_clock absence) = no_clock absence

-- the code that a message is sent under
abbrev pub code_of : Content → ℕ
code_of (dump pieces) = known_number KnownCode.Dump
code_of (field square piece) = known_number KnownCode.Field
code_of (times readings) = known_number KnownCode.Clock
code_of (no_clock absence) = known_number KnownCode.Clock
code_of (ack answer) = known_number KnownCode.Clock
code_of (carried own body) = own

-- the kind of the messages under a code, if they answer a request of a kind
abbrev pub kind_with : Option KnownCode → Option Kind
kind_with (Some KnownCode.Dump) = Some Kind.Dump
kind_with (Some KnownCode.Serial) = Some Kind.Serial
kind_with (Some KnownCode.Trademark) = Some Kind.Trademark
kind_with (Some KnownCode.Version) = Some Kind.Version
kind_with (Some KnownCode.Battery) = Some Kind.Battery
kind_with (Some KnownCode.LongSerial) = Some Kind.LongSerial
kind_with _ = None

abbrev pub answered_kind : Content → Option Kind
answered_kind said = kind_with (known_with (code_of said))

-- bytes that a body may have
abbrev pub IsCarried : List ℕ → Type 0
IsCarried body = (length body ≤ MAX_BODY) × AreSevenBit body

-- the values are in their ranges, so that a message can carry them
abbrev pub IsMessage : Content → Type 0
IsMessage (dump pieces) = length pieces ≡ 64
IsMessage (field square piece) = square < 64
IsMessage (times readings) = AreTimes readings
IsMessage (no_clock absence) = IsAbsence absence
IsMessage (ack answer) = IsAck answer
IsMessage (carried own body) =
    (own < 128) × (layout_of own body ≡ Layout.carried) × HasSize own body × IsCarried body
