-- The lines of a script, and their acts.
use Rattle.std.specs.Prelude.{◌≡◌, ◌≢◌, ℕ, ◌+◌, ◌<◌, ◌≤◌, ◌==◌, ◌⊎◌, ⊤, List, [], ◌∷◌, length}
use Rattle.std.specs.List.{slice_split}
use Rattle.dgt_values.specs.declared.pieces.Piece.{Piece}
use Rattle.dgt_message.specs.Clock.{ClockState}
use Rattle.dgt_command.specs.Content.{CommandContent}
use Rattle.dgt_link.specs.Act.{ActContent, Change, ClockRead, Host, BoardSend, ToBoard, ToHost, Break, HostBreak}
use Rattle.dgt_script.specs.declared.script.LineFault.{LineFault}
use Rattle.dgt_script.specs.declared.script.LineFault.TheVariants.{BadLine}
use Rattle.dgt_script.specs.declared.script_words.Verb.{Verb}
use Rattle.dgt_script.specs.declared.script_words.Verb.TheVariants as verb
use Rattle.dgt_script.specs.ScriptWords.{words_text}
use Rattle.dgt_script.specs.ScriptWords.{verb_text, IsBytesWord, IsSquareWord, IsPieceWord, IsClockWord, IsCommandWord, IsCountWord}

-- the words of a line are its parts between single spaces; an empty part is an empty word
abbrev pub words : List ℕ → List (List ℕ)
words line = slice_split (λ byte. byte == 32) line

-- ---- Words after the first one

-- what a word after the first one may be
pub data WordKind : Type 0 where
  a_square : WordKind
  a_letter : WordKind
  a_clock : WordKind
  a_command : WordKind
  a_count : WordKind
  some_bytes : WordKind

-- the word is of this kind
abbrev pub IsOf : WordKind → List ℕ → Type 0
IsOf a_square word = (square : ℕ) × IsSquareWord word square
IsOf a_letter word = (piece : Piece) × IsPieceWord word piece
IsOf a_clock word = (clock : ClockState) × IsClockWord word clock
IsOf a_command word = (command : CommandContent) × IsCommandWord word command
IsOf a_count word = (count : ℕ) × IsCountWord word count
IsOf some_bytes word = (bytes : List ℕ) × IsBytesWord word bytes

-- the words are of these kinds, one of each
abbrev pub AreOf : List WordKind → List (List ℕ) → Type 0
AreOf [] [] = ⊤
AreOf [] (word ∷ parts) = ⊥
AreOf (kind ∷ kinds) [] = ⊥
AreOf (kind ∷ kinds) (word ∷ parts) = IsOf kind word × AreOf kinds parts

-- Words that should be of these kinds are wrong where `bad` begins: at the first word that is of
-- another kind or one too many, or after the last word if one is missing.
abbrev pub GoesWrong : List WordKind → List (List ℕ) → List (List ℕ) → Type 0
GoesWrong [] [] bad = ⊥
GoesWrong [] (word ∷ parts) bad = bad ≡ word ∷ parts
GoesWrong (kind ∷ kinds) [] bad = bad ≡ []
GoesWrong (kind ∷ kinds) (word ∷ parts) bad = ((¬ IsOf kind word) × (bad ≡ word ∷ parts))
    ⊎ (IsOf kind word × GoesWrong kinds parts bad)

-- the words are this first one and one more, which has this value
abbrev pub HasWordAfter : {A : Type 0} → List ℕ → (List ℕ → A → Type 0) → List (List ℕ) → A
    → Type 0
HasWordAfter first has_value parts value =
    (word : List ℕ) × (parts ≡ first ∷ word ∷ []) × has_value word value

-- ---- Lines

-- the words that a line may begin with, the kinds of the words after each, and the act of the words
-- of a line
pub record Vocabulary (V A : Type 0) : Type 1 where
  pub text_of : V → List ℕ
  pub kinds_of : V → List WordKind
  pub asks : List (List ℕ) → A → Type 0

-- this line is this act
abbrev pub AsksFor : {V A : Type 0} → Vocabulary V A → List ℕ → A → Type 0
AsksFor vocabulary line act = (length line ≤ 519) × vocabulary.asks (words line) act

-- the words of a line are wrong where `bad` begins: at the first, if no line may begin with it, or
-- after it
abbrev pub IsBadFrom : {V A : Type 0} → Vocabulary V A → List (List ℕ) → List (List ℕ) → Type 0
IsBadFrom {V} vocabulary parts bad =
    (((verb : V) (rest : List (List ℕ)) → parts ≢ vocabulary.text_of verb ∷ rest) × (bad ≡ parts))
    ⊎ ((verb : V) × (rest : List (List ℕ)) × (parts ≡ vocabulary.text_of verb ∷ rest)
    × GoesWrong (vocabulary.kinds_of verb) rest bad)

-- this line is wrong at this offset, where the bad words begin
abbrev pub IsBadAt : {V A : Type 0} → Vocabulary V A → List ℕ → ℕ → Type 0
IsBadAt vocabulary line at =
    ((519 < length line) × (at ≡ 519))
    ⊎ ((length line ≤ 519) × (bad : List (List ℕ)) × IsBadFrom vocabulary (words line) bad
    × (at + length (words_text bad) ≡ length line))

-- ---- Lines for a world without faults

-- the kinds of the words after a first word
abbrev pub kinds_after : Verb → List WordKind
kinds_after verb.Change = a_square ∷ a_letter ∷ []
kinds_after verb.Clock = a_clock ∷ []
kinds_after verb.Host = a_command ∷ []
kinds_after verb.Send = []
kinds_after verb.ToBoard = a_count ∷ []
kinds_after verb.ToHost = a_count ∷ []
kinds_after verb.Break = []
kinds_after verb.HostBreak = []

-- these words are this act
abbrev pub Asks : List (List ℕ) → ActContent → Type 0
Asks parts (Change square piece) =
    (first : List ℕ) × (second : List ℕ) × (parts ≡ verb_text verb.Change ∷ first ∷ second ∷ [])
    × IsSquareWord first square × IsPieceWord second piece
Asks parts (ClockRead clock) = HasWordAfter (verb_text verb.Clock) IsClockWord parts clock
Asks parts (Host command) = HasWordAfter (verb_text verb.Host) IsCommandWord parts command
Asks parts BoardSend = parts ≡ verb_text verb.Send ∷ []
Asks parts (ToBoard count) = HasWordAfter (verb_text verb.ToBoard) IsCountWord parts count
Asks parts (ToHost count) = HasWordAfter (verb_text verb.ToHost) IsCountWord parts count
Asks parts Break = parts ≡ verb_text verb.Break ∷ []
Asks parts HostBreak = parts ≡ verb_text verb.HostBreak ∷ []

abbrev pub plain_words : Vocabulary Verb ActContent
plain_words = record { text_of = verb_text; kinds_of = kinds_after; asks = Asks }

-- ---- One meaning

-- a line has at most one of these
abbrev pub IsSingleValued : {A : Type 0} → (List ℕ → A → Type 0) → Type 0
IsSingleValued {A} has =
    (line : List ℕ) (first second : A) → has line first → has line second → first ≡ second

-- ---- In code

-- the offset that is reported
abbrev pub bad_offset : LineFault → ℕ
bad_offset (BadLine at) = at
