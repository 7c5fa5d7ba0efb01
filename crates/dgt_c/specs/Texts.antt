-- An event that a struct describes, and the text of it.
use Rattle.std.specs.Prelude.{◌≡◌, ◌⊎◌, ◌<◌, ℕ, List, [], ◌∷◌, ◌++◌, Option, MatchOption}
use Rattle.dgt_message.specs.declared.viewing.BodyFault.{BodyFault}
use Rattle.dgt_message.specs.declared.viewing.BodyFault.TheVariants.{WrongSize, BadPiece, BadSquare, BadReading}
use Rattle.dgt_decode.specs.declared.event.Event as decoded
use Rattle.dgt_decode.specs.Feeding.{event_content}
use Rattle.dgt_decode.specs.Grammar.{Event, Message, Refused, Cut, BadLength, Stray}
use Rattle.dgt_lines.specs.Lines.{event_text}
use Rattle.dgt_c.specs.Encoding.{EncodesBytes, EncodesNothing, SaysMessage}
use Rattle.dgt_c.specs.declared.header.DgtEncoded.{DgtEncoded}
use Rattle.dgt_c.specs.declared.header.DgtEvent.{DgtEvent}
use Rattle.dgt_c.specs.declared.header.TheConstants.{EVENT_REFUSED, EVENT_CUT, EVENT_BAD_LENGTH, EVENT_STRAY, FAULT_WRONG_SIZE, FAULT_BAD_PIECE, FAULT_BAD_READING, FAULT_BAD_SQUARE}

-- the members `fault` and `at` describe this fault
abbrev pub SaysFault : DgtEvent → BodyFault → Type 0
SaysFault said WrongSize = said.fault ≡ FAULT_WRONG_SIZE
SaysFault said (BadPiece at) = (said.fault ≡ FAULT_BAD_PIECE) × (at ≡ said.at)
SaysFault said (BadSquare at) = (said.fault ≡ FAULT_BAD_SQUARE) × (at ≡ said.at)
SaysFault said (BadReading at) = (said.fault ≡ FAULT_BAD_READING) × (at ≡ said.at)

-- The struct describes this event by its kind, and by the members that this kind sets.
abbrev pub SaysEvent : DgtEvent → List ℕ → Event → Type 0
SaysEvent said body (Message message) = SaysMessage said body message
SaysEvent said body (Refused code fault) =
    (said.kind ≡ EVENT_REFUSED) × (code ≡ said.code) × (code < 128) × SaysFault said fault
SaysEvent said body (Cut have) = (said.kind ≡ EVENT_CUT) × (have ≡ said.have)
SaysEvent said body BadLength = said.kind ≡ EVENT_BAD_LENGTH
SaysEvent said body (Stray byte) = (said.kind ≡ EVENT_STRAY) × (byte ≡ said.byte)

-- the event that the struct describes, if it describes one
abbrev pub ReadsEvent : DgtEvent → List ℕ → Option decoded.Event → Type 0
ReadsEvent said body result =
    MatchOption result ((event : Event) → ¬ (SaysEvent said body event))
    (λ read. SaysEvent said body (event_content read))

-- Its text and a zero byte are written to the slice; or the struct describes no event, and nothing
-- is.
abbrev pub WritesText : DgtEvent → List ℕ → List ℕ → List ℕ → DgtEncoded → Type 0
WritesText said body old new reported =
    ((event : Event) × SaysEvent said body event
    × EncodesBytes (event_text event ++ 0 ∷ []) old new reported)
    ⊎ (((event : Event) → ¬ (SaysEvent said body event)) × EncodesNothing old new reported)
