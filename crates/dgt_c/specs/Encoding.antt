-- Messages that C calls encode and view without a handle, and what the calls report.
use Rattle.std.specs.Prelude.{◌≡◌, ◌⊎◌, ◌<◌, ℕ, List, [], ◌∷◌, Contains, map, Option, Some, Result, Ok, Err, MatchOption}
use Rattle.dgt_values.specs.Board.{piece_code}
use Rattle.dgt_values.specs.Bytes.{WritesPrefix}
use Rattle.dgt_values.specs.declared.refusals.NoRoom.{NoRoom}
use Rattle.dgt_message.specs.declared.known.KnownCode.{KnownCode}
use Rattle.dgt_message.specs.Clock.{ClockState}
use Rattle.dgt_message.specs.Code.{known_with}
use Rattle.dgt_message.specs.Content.{Content, IsCarried, IsMessage, content}
use Rattle.dgt_message.specs.declared.message.Message.{Message}
use Rattle.dgt_message.specs.Reading.{reading}
use Rattle.dgt_message.specs.Encoding.{encoding}
use Rattle.dgt_decode.specs.Grammar.{reading_event}
use Rattle.dgt_c.specs.Clocks.{SaysClock}
use Rattle.dgt_c.specs.Reported.{event_reported, message_reported}
use Rattle.dgt_c.specs.declared.header.DgtEncoded.{DgtEncoded}
use Rattle.dgt_c.specs.declared.header.TheConstants.{DONE, NOTHING_ENCODED, NO_ROOM}
use Rattle.dgt_c.specs.declared.header.DgtEvent.{DgtEvent}
use Rattle.dgt_c.specs.declared.header.TheConstants.{EVENT_DUMP, EVENT_FIELD, EVENT_TIMES, EVENT_NO_CLOCK, EVENT_ACK, EVENT_SERIAL, EVENT_TRADEMARK, EVENT_VERSION, EVENT_BATTERY, EVENT_LONG_SERIAL, EVENT_OTHER}

abbrev pub encoded_reported : Result ℕ NoRoom → DgtEncoded
encoded_reported (Ok bytes) = record { status = DONE; bytes = bytes }
encoded_reported (Err fault) = record { status = NO_ROOM; bytes = fault.need }

-- These bytes are written at the beginning of the slice; or it is too short for them, and
-- unchanged.
abbrev pub EncodesBytes : List ℕ → List ℕ → List ℕ → DgtEncoded → Type 0
EncodesBytes bytes old new reported =
    (outcome : Result ℕ NoRoom) × WritesPrefix bytes old new outcome
    × (reported ≡ encoded_reported outcome)

-- there is nothing to encode, and the slice is unchanged
abbrev pub EncodesNothing : List ℕ → List ℕ → DgtEncoded → Type 0
EncodesNothing old new reported = (reported ≡ NOTHING_ENCODED) × (new ≡ old)

-- ---- Messages

-- The kinds of messages. The other kinds are those of faults, or unused.
abbrev pub kinds_of_messages : List ℕ
kinds_of_messages =
    EVENT_DUMP ∷ EVENT_FIELD ∷ EVENT_TIMES ∷ EVENT_NO_CLOCK ∷ EVENT_ACK ∷ EVENT_SERIAL
    ∷ EVENT_TRADEMARK ∷ EVENT_VERSION ∷ EVENT_BATTERY ∷ EVENT_LONG_SERIAL ∷ EVENT_OTHER ∷ []

abbrev pub IsMessageKind : ℕ → Type 0
IsMessageKind kind = Contains kinds_of_messages kind

-- the bytes that determine the kind of a message under this code: members, or the body
abbrev pub carried_said : Option KnownCode → DgtEvent → List ℕ → List ℕ
carried_said (Some KnownCode.Serial) said body = said.serial
carried_said (Some KnownCode.Version) said body = said.main_number ∷ said.sub_number ∷ []
carried_said _ said body = body

-- the members that the kind of a message sets, or the body, describe this message
abbrev pub SaysMembers : DgtEvent → List ℕ → Content → Type 0
SaysMembers said body (Content.dump pieces) = map piece_code pieces ≡ said.pieces
SaysMembers said body (Content.field square piece) =
    (square ≡ said.square) × (piece_code piece ≡ said.piece)
SaysMembers said body (Content.times readings) = SaysClock said.clock (ClockState.times readings)
SaysMembers said body (Content.no_clock absence) =
    SaysClock said.clock (ClockState.no_clock absence)
SaysMembers said body (Content.ack answer) =
    (answer.ack ≡ said.ack) × (answer.status ≡ said.ack_status)
SaysMembers said body (Content.carried code bytes) =
    (said.kind ≡ EVENT_OTHER → code ≡ said.code)
    × (bytes ≡ carried_said (known_with code) said body)

-- the kind and the members, or the body, describe this message
abbrev pub SaysContent : DgtEvent → List ℕ → Content → Type 0
SaysContent said body message =
    (said.kind ≡ (message_reported message).kind) × SaysMembers said body message

-- the struct and the body describe this message, with values in their ranges
abbrev pub SaysMessage : DgtEvent → List ℕ → Content → Type 0
SaysMessage said body message = IsMessage message × SaysContent said body message

-- the message that the struct and the body describe, if they describe one
abbrev pub ReadsMessage : DgtEvent → List ℕ → Option Message → Type 0
ReadsMessage said body result =
    MatchOption result ((message : Content) → ¬ (SaysMessage said body message))
    (λ read. SaysMessage said body (content read))

-- The message that the struct and the body describe is encoded; or they describe none, and nothing
-- is.
abbrev pub EncodesMessage : DgtEvent → List ℕ → List ℕ → List ℕ → DgtEncoded → Type 0
EncodesMessage said body old new reported =
    ((message : Content) × SaysMessage said body message
    × EncodesBytes (encoding message) old new reported)
    ⊎ (((message : Content) → ¬ (SaysMessage said body message)) × EncodesNothing old new reported)

-- a message may have this code and this body
abbrev pub IsCodeAndBody : ℕ → List ℕ → Type 0
IsCodeAndBody code body = (code < 128) × IsCarried body

-- the struct of the message with this code and this body, or of the fault of the body
abbrev pub view_reported : ℕ → List ℕ → DgtEvent
view_reported code body = event_reported (Some (reading_event code (reading code body)))
