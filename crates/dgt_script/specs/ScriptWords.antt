-- The words of a script line, and their values.
use Rattle.std.specs.Prelude.{◌≡◌, ℕ, ◌<◌, ◌≤◌, ◌⊎◌, List, [], ◌∷◌, Ok, codes, decimal, length}
use Rattle.std.specs.List.{join_with_byte}
use Rattle.hex.specs.Hex.{decode_of}
use Rattle.dgt_values.specs.declared.pieces.Piece.{Piece}
use Rattle.dgt_values.specs.Board.{piece_letter, square_name}
use Rattle.dgt_message.specs.declared.known.KnownCode.{KnownCode}
use Rattle.dgt_message.specs.Code.{known_number}
use Rattle.dgt_message.specs.Clock.{ClockState}
use Rattle.dgt_message.specs.Content.{clock_message, Content}
use Rattle.dgt_message.specs.Encoding.{Fits}
use Rattle.dgt_command.specs.Content.{CommandContent}
use Rattle.dgt_command.specs.Encoding.{EncodesCommand}
use Rattle.dgt_script.specs.declared.script_words.Verb.{Verb}
use Rattle.dgt_script.specs.declared.script_words.Verb.TheVariants as verb

-- ---- Words in a row

-- words with a space between two
abbrev pub words_text : List (List ℕ) → List ℕ
words_text words = join_with_byte 32 words

-- ---- The first word

-- the words that a line may begin with
abbrev pub verb_text : Verb → List ℕ
verb_text verb.Change = codes "change"
verb_text verb.Clock = codes "clock"
verb_text verb.Host = codes "host"
verb_text verb.Send = codes "send"
verb_text verb.ToBoard = codes "toboard"
verb_text verb.ToHost = codes "tohost"
verb_text verb.Break = codes "break"
verb_text verb.HostBreak = codes "hostbreak"

-- ---- The words after it

-- the name of the square
abbrev pub IsSquareWord : List ℕ → ℕ → Type 0
IsSquareWord word square = (square < 64) × (word ≡ square_name square)

-- the letter of the piece
abbrev pub IsPieceWord : List ℕ → Piece → Type 0
IsPieceWord word piece = word ≡ piece_letter piece ∷ []

-- two hexadecimal digits for each byte, each of either case
abbrev pub IsHexOf : List ℕ → List ℕ → Type 0
IsHexOf word bytes = decode_of word ≡ Ok bytes

-- the message reports this clock
abbrev pub ReportsClock : Content → ClockState → Type 0
ReportsClock said clock = clock_message clock ≡ said

-- hexadecimal digits of the body of the message that reports the clock
pub record IsClockWord (word : List ℕ) (clock : ClockState) : Type 0 where
  pub body : List ℕ
  pub digits : IsHexOf word body
  pub fits : Fits (clock_message clock) (known_number KnownCode.Clock) body

-- hexadecimal digits of the bytes of the command
pub record IsCommandWord (word : List ℕ) (command : CommandContent) : Type 0 where
  pub bytes : List ℕ
  pub digits : IsHexOf word bytes
  pub encodes : EncodesCommand command bytes

-- a number from 1 to 65535 in decimal, with no leading zero
abbrev pub IsCountWord : List ℕ → ℕ → Type 0
IsCountWord word count = (1 ≤ count) × (count ≤ 65535) × (word ≡ decimal count)

-- `-` for no bytes, or hexadecimal digits of 1 to 257 bytes
abbrev pub IsBytesWord : List ℕ → List ℕ → Type 0
IsBytesWord word bytes =
    ((word ≡ codes "-") × (bytes ≡ []))
    ⊎ ((1 ≤ length bytes) × (length bytes ≤ 257) × IsHexOf word bytes)
