-- How C calls report an event: a struct with a kind that determines which members are set, and the
-- bytes of a body that no member contains.
use Rattle.std.specs.Prelude.{ℕ, List, [], length, map, slice_index, Option, Some, None}
use Rattle.dgt_values.specs.Board.{piece_code}
use Rattle.dgt_message.specs.declared.known.KnownCode.{KnownCode}
use Rattle.dgt_message.specs.declared.viewing.BodyFault.{BodyFault}
use Rattle.dgt_message.specs.Clock.{ClockState}
use Rattle.dgt_message.specs.Code.{known_with}
use Rattle.dgt_message.specs.Content.{Content}
use Rattle.dgt_decode.specs.Grammar.{Event, Message, Refused, Cut, BadLength, Stray}
use Rattle.dgt_c.specs.Clocks.{clock_reported}
use Rattle.dgt_c.specs.declared.header.DgtEvent.{DgtEvent}
use Rattle.dgt_c.specs.declared.header.TheConstants.{NOTHING, EVENT_DUMP, EVENT_FIELD, EVENT_TIMES, EVENT_NO_CLOCK, EVENT_ACK, EVENT_SERIAL, EVENT_TRADEMARK, EVENT_VERSION, EVENT_BATTERY, EVENT_LONG_SERIAL, EVENT_OTHER, EVENT_REFUSED, EVENT_CUT, EVENT_BAD_LENGTH, EVENT_STRAY, FAULT_WRONG_SIZE, FAULT_BAD_PIECE, FAULT_BAD_SQUARE, FAULT_BAD_READING}

-- the kind of a message with a body that no member contains
abbrev pub carried_kind : Option KnownCode → ℕ
carried_kind (Some KnownCode.Trademark) = EVENT_TRADEMARK
carried_kind (Some KnownCode.Battery) = EVENT_BATTERY
carried_kind (Some KnownCode.LongSerial) = EVENT_LONG_SERIAL
carried_kind _ = EVENT_OTHER

-- the message under a code with a body that is carried unread
abbrev pub carried_reported : Option KnownCode → ℕ → List ℕ → DgtEvent
carried_reported (Some KnownCode.Serial) code body =
    record NOTHING { kind = EVENT_SERIAL; serial = body }
carried_reported (Some KnownCode.Version) code body = record NOTHING {
  kind = EVENT_VERSION;
  main_number = slice_index body 0;
  sub_number = slice_index body 1;
}
carried_reported known code body =
    record NOTHING { kind = carried_kind known; code = code; body_len = length body }

abbrev pub message_reported : Content → DgtEvent
message_reported (Content.dump pieces) =
    record NOTHING { kind = EVENT_DUMP; pieces = map piece_code pieces }
message_reported (Content.field square piece) =
    record NOTHING { kind = EVENT_FIELD; square = square; piece = piece_code piece }
message_reported (Content.times readings) =
    record NOTHING { kind = EVENT_TIMES; clock = clock_reported (ClockState.times readings) }
message_reported (Content.no_clock absence) =
    record NOTHING { kind = EVENT_NO_CLOCK; clock = clock_reported (ClockState.no_clock absence) }
message_reported (Content.ack answer) =
    record NOTHING { kind = EVENT_ACK; ack = answer.ack; ack_status = answer.status }
message_reported (Content.carried code body) = carried_reported (known_with code) code body

abbrev pub fault_number : BodyFault → ℕ
fault_number BodyFault.WrongSize = FAULT_WRONG_SIZE
fault_number (BodyFault.BadPiece at) = FAULT_BAD_PIECE
fault_number (BodyFault.BadSquare at) = FAULT_BAD_SQUARE
fault_number (BodyFault.BadReading at) = FAULT_BAD_READING

-- the place of a fault in the body, if it has one
abbrev pub fault_place : BodyFault → ℕ
fault_place BodyFault.WrongSize = 0
fault_place (BodyFault.BadPiece at) = at
fault_place (BodyFault.BadSquare at) = at
fault_place (BodyFault.BadReading at) = at

abbrev pub refused_reported : ℕ → BodyFault → DgtEvent
refused_reported code fault = record NOTHING {
  kind = EVENT_REFUSED;
  code = code;
  fault = fault_number fault;
  at = fault_place fault;
}

-- the struct of this event, or of none
abbrev pub event_reported : Option Event → DgtEvent
event_reported None = NOTHING
event_reported (Some (Message said)) = message_reported said
event_reported (Some (Refused code fault)) = refused_reported code fault
event_reported (Some (Cut have)) = record NOTHING { kind = EVENT_CUT; have = have }
event_reported (Some BadLength) = record NOTHING { kind = EVENT_BAD_LENGTH }
event_reported (Some (Stray byte)) = record NOTHING { kind = EVENT_STRAY; byte = byte }

-- the same, and the place of the event's last byte
abbrev pub reported_at : ℕ → Option Event → DgtEvent
reported_at place None = NOTHING
reported_at place (Some event) = record (event_reported (Some event)) { place = place }

-- the body under a code, if no member contains it
abbrev pub body_apart : Option KnownCode → List ℕ → List ℕ
body_apart (Some KnownCode.Serial) body = []
body_apart (Some KnownCode.Version) body = []
body_apart _ body = body

abbrev pub body_said : Option Event → List ℕ
body_said (Some (Message (Content.carried code body))) = body_apart (known_with code) body
body_said _ = []
