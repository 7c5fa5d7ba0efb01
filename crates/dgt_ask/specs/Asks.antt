-- The commands and bytes that the words of `dgt ask` request.
use Rattle.std.specs.Prelude.{◌≡◌, ◌≢◌, ◌<◌, ◌≤◌, ◌⊎◌, ℕ, false, ◌-◌, List, [], ◌∷◌, ◌++◌, length, replicate, codes, decimal, Ok, IsOkAnd, get_or, slice_index as nth}
use Rattle.std.specs.Str.{IsAscii}
use Rattle.hex.specs.Hex.{decode_of, decode_sized}
use Rattle.dgt_command.specs.declared.ids.KnownId.{KnownId}
use Rattle.dgt_command.specs.Content.{ClockContent, CommandContent, Reset, Clock, Dump, Update, UpdateBoard, UpdateNice, Serial, Trademark, Battery, Version, LongSerial, ClockMessage, Leds, known_clock}
use Rattle.dgt_command.specs.Display.{Shows}
use Rattle.dgt_command.specs.Encoding.{command_encoding}
use Rattle.dgt_command.specs.Ids.{has_own_case}
use Rattle.dgt_command.specs.Words.{BeginsNoCommand}
use Rattle.dgt_host.specs.Host.{follow_bytes, restart_bytes}
use Rattle.dgt_ask.specs.declared.details.Detail.{Detail}
use Rattle.dgt_ask.specs.declared.details.Detail.TheVariants as detail

-- ---- words without operands

-- this word is the name of the command
abbrev pub IsNamed : List ℕ → CommandContent → Type 0
IsNamed word Reset = word ≡ codes "reset"
IsNamed word Clock = word ≡ codes "clock"
IsNamed word Dump = word ≡ codes "dump"
IsNamed word Update = word ≡ codes "update"
IsNamed word UpdateBoard = word ≡ codes "updateboard"
IsNamed word UpdateNice = word ≡ codes "updatenice"
IsNamed word Serial = word ≡ codes "serial"
IsNamed word LongSerial = word ≡ codes "longserial"
IsNamed word Trademark = word ≡ codes "trademark"
IsNamed word Battery = word ≡ codes "battery"
IsNamed word Version = word ≡ codes "version"
IsNamed word (ClockMessage message) =
    ((word ≡ codes "end") × (message ≡ known_clock KnownId.End []))
    ⊎ ((word ≡ codes "button") × (message ≡ known_clock KnownId.Button []))
    ⊎ ((word ≡ codes "clockversion") × (message ≡ known_clock KnownId.Version []))
IsNamed word (Leds leds) = ⊥

-- ---- words with an operand

abbrev pub detail_text : Detail → List ℕ
detail_text detail.Beep = codes "beep"
detail_text detail.Display = codes "display"
detail_text detail.Text = codes "text"
detail_text detail.Icons = codes "icons"
detail_text detail.SetAndRun = codes "setandrun"
detail_text detail.ClockMessage = codes "clockmessage"
detail_text detail.Leds = codes "leds"
detail_text detail.Stray = codes "stray"

-- a text encodes these bytes: two hexadecimal digits for each, or a hyphen for no bytes
abbrev pub HasBytes : List ℕ → List ℕ → Type 0
HasBytes text bytes =
    ((text ≡ codes "-") × (bytes ≡ []))
    ⊎ ((text ≢ codes "-") × (text ≢ []) × (decode_of text ≡ Ok bytes))

-- a text encodes the payload of a clock message, in the length of its id
abbrev pub HasPayload : KnownId → ℕ → List ℕ → ClockContent → Type 0
HasPayload known size text message =
    (payload : List ℕ) × (decode_sized text size ≡ Ok payload)
    × (message ≡ known_clock known payload)

-- the text, and spaces up to this number of characters
abbrev pub padded : ℕ → List ℕ → List ℕ
padded size text = text ++ replicate (size - length text) 32

-- up to six characters that the clock can show, or the bytes of a display
abbrev pub IsDisplay : List ℕ → ClockContent → Type 0
IsDisplay text message =
    HasPayload KnownId.Display 8 text message
    ⊎ ((length text ≤ 6) × Shows (padded 6 text) 0 0 message)

-- up to eight characters of ASCII, or the bytes of a text
abbrev pub IsText : List ℕ → ClockContent → Type 0
IsText text message =
    HasPayload KnownId.Text 9 text message
    ⊎ ((length text ≤ 8) × IsAscii text
    × (message ≡ known_clock KnownId.Text (padded 8 text ++ 0 ∷ [])))

-- an id, a space, and the bytes of a clock message without another word
abbrev pub IsRaw : List ℕ → ClockContent → Type 0
IsRaw text message =
    (high : ℕ) × (low : ℕ) × (rest : List ℕ) × (text ≡ high ∷ low ∷ 32 ∷ rest)
    × (decode_sized (high ∷ low ∷ []) 1 ≡ Ok (message.id ∷ [])) × HasBytes rest message.payload
    × (length message.payload ≤ 252)
    × (has_own_case message.id (length message.payload) ≡ false)

-- with this operand the word requests the command
abbrev pub DetailAsks : Detail → List ℕ → CommandContent → Type 0
DetailAsks detail.Beep text (ClockMessage message) =
    (number : ℕ) × (number < 256) × (text ≡ decimal number)
    × (message ≡ known_clock KnownId.Beep (number ∷ []))
DetailAsks detail.Display text (ClockMessage message) = IsDisplay text message
DetailAsks detail.Text text (ClockMessage message) = IsText text message
DetailAsks detail.Icons text (ClockMessage message) =
    (payload : List ℕ) × HasBytes text payload × (length payload ≤ 252)
    × (message ≡ known_clock KnownId.Icons payload)
DetailAsks detail.SetAndRun text (ClockMessage message) =
    HasPayload KnownId.SetAndRun 7 text message
DetailAsks detail.ClockMessage text (ClockMessage message) = IsRaw text message
DetailAsks detail.Leds text (Leds leds) = HasBytes text leds × (length leds ≤ 255)
DetailAsks _ text command = ⊥

-- ---- whole commands

-- a word requests this command: it is its name, or a name, a space and an operand
abbrev pub Asks : List ℕ → CommandContent → Type 0
Asks word command =
    IsNamed word command
    ⊎ ((detail : Detail) × (text : List ℕ) × (word ≡ detail_text detail ++ 32 ∷ text)
    × DetailAsks detail text command)

-- ---- bytes

-- this word requests these bytes, which are not a command
abbrev pub IsAlone : List ℕ → List ℕ → Type 0
IsAlone word bytes =
    ((word ≡ codes "follow") × (bytes ≡ follow_bytes))
    ⊎ ((word ≡ codes "restart") × (bytes ≡ restart_bytes))
    ⊎ ((word ≡ codes "log") × (bytes ≡ 0x49 ∷ []))

-- two hexadecimal digits of a byte that begins no command
abbrev pub IsStray : List ℕ → ℕ → Type 0
IsStray text byte =
    IsOkAnd (decode_sized text 1) (λ bytes. byte ≡ nth bytes 0) × BeginsNoCommand byte

abbrev pub IsNoStray : List ℕ → Type 0
IsNoStray text = (byte : ℕ) → ¬ (IsStray text byte)

-- this word requests a byte that begins no command
abbrev pub AsksStray : List ℕ → List ℕ → Type 0
AsksStray word bytes =
    (text : List ℕ) × (byte : ℕ) × (word ≡ detail_text detail.Stray ++ 32 ∷ text)
    × IsStray text byte × (bytes ≡ byte ∷ [])

-- a word requests these bytes, of a command or not
abbrev pub AsksBytes : List ℕ → List ℕ → Type 0
AsksBytes word bytes =
    ((command : CommandContent) × Asks word command × (bytes ≡ command_encoding command))
    ⊎ IsAlone word bytes ⊎ AsksStray word bytes

-- each word requests the bytes at the same place of the list
pub record AskInOrder (words asked : List (List ℕ)) : Type 0 where
  pub all : length asked ≡ length words
  pub each : (i : ℕ) → i < length words → AsksBytes (get_or words i []) (get_or asked i [])

-- ---- missing operands

-- these words print the help, unless they are the operand of `text`
abbrev pub AsksHelp : List ℕ → Type 0
AsksHelp word = (word ≡ codes "--help") ⊎ (word ≡ codes "-h")

-- the words are this one, without its operand, or `clockmessage` and an id, without the bytes
abbrev pub LacksOperand : Detail → List (List ℕ) → Type 0
LacksOperand word words =
    (words ≡ detail_text word ∷ [])
    ⊎ ((word ≡ detail.ClockMessage)
    × (id : List ℕ) × (words ≡ detail_text word ∷ id ∷ []) × (¬ AsksHelp id))
