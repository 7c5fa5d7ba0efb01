-- The lines of a host's commands. A line is an offset, a space, a text and a line feed.
use Rattle.std.specs.Prelude.{◌≡◌, ℕ, ◌+◌, List, [], ◌∷◌, ◌++◌, length}
use Rattle.dgt_command.specs.Content.{EventContent}
use Rattle.dgt_command.specs.Words.{Word, AreWords}
use Rattle.dgt_lines.specs.Lines.{line}
use Rattle.dgt_lines.specs.CommandWords.{command_event_text}

-- the line of an event that ends after this number of bytes
abbrev pub command_line : ℕ → EventContent → List ℕ
command_line offset event = line offset (command_event_text event)

-- a line for each frame; this number of bytes precedes them
abbrev pub word_lines : ℕ → List Word → List ℕ
word_lines offset [] = []
word_lines offset (word ∷ words) =
    command_line (offset + length word.bytes) word.event
    ++ word_lines (offset + length word.bytes) words

-- bytes after this number of others have this text, and leave this rest of a frame
pub record Prints (offset : ℕ) (bytes rest text : List ℕ) : Type 0 where
  pub words : List Word
  pub are_words : AreWords bytes words rest
  pub said : text ≡ word_lines offset words
