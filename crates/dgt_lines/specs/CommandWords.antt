-- The words of a host's commands.
use Rattle.std.specs.Prelude.{ℕ, ◌+◌, ◌==◌, ◌&&◌, not, nat_le, Bool, List, [], ◌∷◌, length, take, map, Option, Some, None, slice_index as nth, if◌then◌else◌, codes, decimal}
use Rattle.std.specs.List.{list_all}
use Prim.Native.Char.{code as ascii}
use Rattle.dgt_values.specs.Segment.{digit_segments}
use Rattle.dgt_command.specs.declared.ids.KnownId.{KnownId}
use Rattle.dgt_command.specs.Ids.{id_with, has_own_case}
use Rattle.dgt_command.specs.Content.{ClockContent, CommandContent, Reset, Clock, Dump, Update, UpdateBoard, UpdateNice, Serial, Trademark, Battery, Version, LongSerial, ClockMessage, Leds, EventContent, Read, BadSize, BadStart, BadEnd, Stray}
use Rattle.dgt_lines.specs.Lines.{byte_text, bytes_text, words_text}

-- ---- Characters

-- the digit with these segments, if the list has the segments of this digit and the ones after it;
-- otherwise the other character
abbrev pub shown_digit : ℕ → ℕ → List ℕ → ℕ → ℕ
shown_digit other digit [] segments = other
shown_digit other digit (first ∷ more) segments =
    if segments == first then digit else shown_digit other (digit + 1) more segments

-- the character that these segments show, or a question mark if they show none
abbrev pub shown_character : ℕ → ℕ
shown_character segments = shown_digit other (ascii "0") digit_segments segments
  where
    other : ℕ
    other =
        if segments == 0x00 then ascii " "
        else if segments == 0x40 then ascii "-"
        else ascii "?"

-- some segments show the character
abbrev pub is_shown : ℕ → Bool
is_shown character = not (character == ascii "?")

-- the printable characters of ASCII, with the space
abbrev pub is_printable : ℕ → Bool
is_printable byte = nat_le (ascii " ") byte && nat_le byte (ascii "~")

-- ---- Texts

-- The six characters of a display without dots and beep, from left to right, or else the eight
-- bytes in the order in which they are sent.
abbrev pub display_word : List ℕ → List ℕ
display_word payload =
    if list_all is_shown (six payload) && nth payload 6 == 0 && nth payload 7 == 0 then six payload
    else bytes_text payload
  where
    six : List ℕ → List ℕ
    six payload =
        map shown_character
        (nth payload 2 ∷ nth payload 1 ∷ nth payload 0 ∷ nth payload 5 ∷ nth payload 4
        ∷ nth payload 3 ∷ [])

-- The eight characters of a text without a beep, if they are printable, or else the nine bytes.
abbrev pub text_word : List ℕ → List ℕ
text_word payload =
    if list_all is_printable (take 8 payload) && nth payload 8 == 0 then take 8 payload
    else bytes_text payload

-- any clock message, by its id and the bytes that it carries
abbrev pub raw_words : ℕ → List ℕ → List (List ℕ)
raw_words id payload = codes "clockmessage" ∷ byte_text id ∷ bytes_text payload ∷ []

-- a clock message of a known kind
abbrev pub known_words : KnownId → List ℕ → List (List ℕ)
known_words KnownId.Display payload = codes "display" ∷ display_word payload ∷ []
known_words KnownId.Icons payload = codes "icons" ∷ bytes_text payload ∷ []
known_words KnownId.End payload = codes "end" ∷ []
known_words KnownId.Button payload = codes "button" ∷ []
known_words KnownId.Version payload = codes "clockversion" ∷ []
known_words KnownId.SetAndRun payload = codes "setandrun" ∷ bytes_text payload ∷ []
known_words KnownId.Beep payload = codes "beep" ∷ decimal (nth payload 0) ∷ []
known_words KnownId.Text payload = codes "text" ∷ text_word payload ∷ []

abbrev pub words_with : Option KnownId → ℕ → List ℕ → List (List ℕ)
words_with (Some known) id payload = known_words known payload
words_with None id payload = raw_words id payload

abbrev pub clock_words : ClockContent → List (List ℕ)
clock_words message =
    if has_own_case message.id (length message.payload)
    then words_with (id_with message.id) message.id message.payload
    else raw_words message.id message.payload

abbrev pub command_text : CommandContent → List ℕ
command_text Reset = codes "reset"
command_text Clock = codes "clock"
command_text Dump = codes "dump"
command_text Update = codes "update"
command_text UpdateBoard = codes "updateboard"
command_text UpdateNice = codes "updatenice"
command_text Serial = codes "serial"
command_text Trademark = codes "trademark"
command_text Battery = codes "battery"
command_text Version = codes "version"
command_text LongSerial = codes "longserial"
command_text (ClockMessage message) = words_text (clock_words message)
command_text (Leds leds) = words_text (codes "leds" ∷ bytes_text leds ∷ [])

abbrev pub command_event_text : EventContent → List ℕ
command_event_text (Read command) = command_text command
command_event_text BadSize = codes "badsize"
command_event_text BadStart = codes "badstart"
command_event_text BadEnd = codes "badend"
command_event_text (Stray byte) = words_text (codes "stray" ∷ byte_text byte ∷ [])
