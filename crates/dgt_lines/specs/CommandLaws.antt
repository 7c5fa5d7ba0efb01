-- Facts about the texts of commands.
use Prim.Native.Char.{code as ascii}
use Rattle.std.specs.Prelude.{◌≡◌, ℕ, ◌+◌, ◌-◌, List, ◌++◌, length}
use Rattle.dgt_values.specs.Segment.{IsShownBy}
use Rattle.dgt_command.specs.Encoding.{AreBytes}
use Rattle.dgt_lines.specs.CommandLines.{Prints}
use Rattle.dgt_lines.specs.CommandWords.{shown_character}

-- bytes after this number of others have a text
abbrev pub EachIsPrinted : Type 0
EachIsPrinted =
    (offset : ℕ) (bytes : List ℕ) → AreBytes bytes →
    (rest : List ℕ) × (text : List ℕ) × Prints offset bytes rest text

-- bytes after this number of others have only one text
abbrev pub EachIsPrintedOnce : Type 0
EachIsPrintedOnce =
    (offset : ℕ) (bytes rest other text also : List ℕ) →
    Prints offset bytes rest text → Prints offset bytes other also → (rest ≡ other) × (text ≡ also)

-- bytes after others are read together with the rest that those left
abbrev pub TextsAppend : Type 0
TextsAppend =
    (offset : ℕ) (bytes more rest last text others : List ℕ) →
    Prints offset bytes rest text →
    Prints (offset + (length bytes - length rest)) (rest ++ more) last others →
    Prints offset (bytes ++ more) last (text ++ others)

-- segments that show a character are printed as that character
abbrev pub EachCharacterIsShown : Type 0
EachCharacterIsShown =
    (character segments : ℕ) → IsShownBy character segments → shown_character segments ≡ character

-- segments that show no character are printed as a question mark
abbrev pub OthersAreQuestionMarks : Type 0
OthersAreQuestionMarks =
    (segments : ℕ) → ((character : ℕ) → ¬ (IsShownBy character segments)) →
    shown_character segments ≡ ascii "?"
