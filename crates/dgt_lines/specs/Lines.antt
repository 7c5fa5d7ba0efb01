-- The lines of a board's messages. A line is an offset, a space, a text and a line feed.
use Rattle.std.specs.Prelude.{ℕ, ◌-◌, Option, Some, List, [], ◌∷◌, ◌++◌, length, replicate, map, codes, decimal, slice_index}
use Rattle.std.specs.List.{join_with_byte, flat_map}
use Rattle.hex.specs.Hex.{encode_lower}
use Rattle.dgt_values.specs.Board.{piece_letter, square_name}
use Rattle.dgt_values.specs.Placement.{placement_text}
use Rattle.dgt_message.specs.declared.viewing.BodyFault.{BodyFault}
use Rattle.dgt_message.specs.declared.viewing.BodyFault.TheVariants.{WrongSize, BadPiece, BadSquare, BadReading}
use Rattle.dgt_message.specs.declared.known.KnownCode.{KnownCode}
use Rattle.dgt_message.specs.Code.{known_with}
use Rattle.dgt_message.specs.Content.{Content}
use Rattle.dgt_message.specs.Content.Content.{dump, field, times, no_clock, ack, carried}
use Rattle.dgt_message.specs.Clock.{Time}
use Rattle.dgt_decode.specs.Grammar.{Event, Message, Refused, Cut, BadLength, Stray, Placed, events, shifted, unfinished_message}
use Rattle.dgt_decode.specs.Feeding.{chunk_events}

-- ---- Numbers and bytes

-- a number in decimal, with leading zeros to at least this many digits
abbrev pub padded_decimal : ℕ → ℕ → List ℕ
padded_decimal width number = replicate (width - length (decimal number)) 48 ++ decimal number

-- two hexadecimal digits
abbrev pub byte_text : ℕ → List ℕ
byte_text byte = encode_lower (byte ∷ [])

-- two hexadecimal digits for each byte; a hyphen if there is none
abbrev pub bytes_text : List ℕ → List ℕ
bytes_text [] = codes "-"
bytes_text (byte ∷ bytes) = encode_lower (byte ∷ bytes)

-- words with a space between two
abbrev pub words_text : List (List ℕ) → List ℕ
words_text words = join_with_byte 32 words

-- ---- Texts

-- hours, minutes and seconds
unfoldable pub shown_time : Time → List ℕ
shown_time t =
    decimal t.hours ++ codes ":" ++ padded_decimal 2 t.minutes ++ codes ":" ++ padded_decimal 2
    t.seconds

-- hours, minutes, seconds and the flags
unfoldable pub reading_text : Time → List ℕ
reading_text t = shown_time t ++ codes " " ++ decimal t.flags

-- the name of a message whose body is carried, or `other` and its code
abbrev pub carried_words : Option KnownCode → ℕ → List (List ℕ)
carried_words (Some KnownCode.Serial) code = codes "serial" ∷ []
carried_words (Some KnownCode.Trademark) code = codes "trademark" ∷ []
carried_words (Some KnownCode.Version) code = codes "version" ∷ []
carried_words (Some KnownCode.Battery) code = codes "battery" ∷ []
carried_words (Some KnownCode.LongSerial) code = codes "longserial" ∷ []
carried_words _ code = codes "other" ∷ byte_text code ∷ []

-- its bytes; those of a version are two numbers with a point between
abbrev pub carried_text : Option KnownCode → List ℕ → List ℕ
carried_text (Some KnownCode.Version) body =
    decimal (slice_index body 0) ++ codes "." ++ decimal (slice_index body 1)
carried_text _ body = bytes_text body

unfoldable pub message_text : Content → List ℕ
message_text (dump pieces) = words_text (codes "dump" ∷ placement_text pieces ∷ [])
message_text (field square piece) =
    words_text (codes "field" ∷ square_name square ∷ (piece_letter piece ∷ []) ∷ [])
message_text (times t) =
    words_text (codes "times" ∷ reading_text t.first ∷ reading_text t.second ∷ byte_text t.status
    ∷ [])
message_text (no_clock absence) =
    words_text (codes "noclock" ∷ bytes_text absence.raw ∷ byte_text absence.status ∷ [])
message_text (ack answer) =
    words_text (codes "ack" ∷ map byte_text (answer.ack ++ answer.status ∷ []))
message_text (carried code body) =
    words_text (carried_words (known_with code) code ++ carried_text (known_with code) body ∷ [])

abbrev pub fault_text : BodyFault → List ℕ
fault_text WrongSize = codes "wrongsize"
fault_text (BadPiece at) = words_text (codes "badpiece" ∷ decimal at ∷ [])
fault_text (BadSquare at) = words_text (codes "badsquare" ∷ decimal at ∷ [])
fault_text (BadReading at) = words_text (codes "badreading" ∷ decimal at ∷ [])

unfoldable pub event_text : Event → List ℕ
event_text (Message said) = message_text said
event_text (Refused code fault) =
    words_text (codes "refused" ∷ byte_text code ∷ fault_text fault ∷ [])
event_text (Cut have) = words_text (codes "cut" ∷ decimal have ∷ [])
event_text BadLength = codes "badlength"
event_text (Stray byte) = words_text (codes "stray" ∷ byte_text byte ∷ [])

abbrev pub unfinished_text : ℕ → List ℕ
unfinished_text have = words_text (codes "unfinished" ∷ decimal have ∷ [])

-- ---- Lines

-- at least eight digits
abbrev pub offset_text : ℕ → List ℕ
offset_text offset = padded_decimal 8 offset

abbrev pub line : ℕ → List ℕ → List ℕ
line offset text = words_text (offset_text offset ∷ text ∷ []) ++ codes "\n"

-- the line of an event that ends after this many bytes
abbrev pub event_line : ℕ → Event → List ℕ
event_line offset event = line offset (event_text event)

abbrev pub placed_line : Placed → List ℕ
placed_line x = event_line x.place x.event

-- a line for each event
abbrev pub lines : List ℕ → List ℕ
lines bytes = flat_map placed_line (events bytes)

-- the events of a chunk after this number of bytes; the list is the unfinished message before it
abbrev pub events_after : List ℕ → ℕ → List ℕ → List Placed
events_after held offset chunk = shifted offset (chunk_events held chunk)

-- the lines of such a chunk
abbrev pub lines_after : List ℕ → ℕ → List ℕ → List ℕ
lines_after held offset chunk = flat_map placed_line (events_after held offset chunk)

-- the last line, if these bytes of a message are unfinished at the end, after this number of bytes
abbrev pub unfinished_line : ℕ → List ℕ → List ℕ
unfinished_line offset [] = []
unfinished_line offset (byte ∷ bytes) = line offset (unfinished_text (length (byte ∷ bytes)))

-- a line for each event, and a last one for a message that is unfinished at the end
abbrev pub monitor_text : List ℕ → List ℕ
monitor_text bytes = lines bytes ++ unfinished_line (length bytes) (unfinished_message bytes)
