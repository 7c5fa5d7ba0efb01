-- What a framer keeps, and what it finds in these bytes.
use Rattle.std.specs.Prelude.{ℕ, List, [], Bool, Option, Some, None, if◌then◌else◌}
use Rattle.dgt_command.specs.declared.framer.FoundWord.{FoundWord}
use Rattle.dgt_command.specs.declared.framer.FoundWord.TheVariants as found
use Rattle.dgt_command.specs.Content.{EventContent, Read, BadSize, BadStart, BadEnd, Stray}
use Rattle.dgt_command.specs.Encoding.{command_in}

-- The bytes kept, and whether they are a whole frame. A whole frame is kept only for its event.
pub record KeptWord : Type 0 where
  pub word : List ℕ
  pub is_whole : Bool

-- the bytes of the frame that isn't finished
abbrev pub rest_of : KeptWord → List ℕ
rest_of kept = if kept.is_whole then [] else kept.word

-- the rest after these bytes, if an event says that they completed a frame
abbrev pub rest_after : {A : Type 0} → Option A → List ℕ → List ℕ
rest_after None bytes = bytes
rest_after (Some event) bytes = []

-- what was found in the frame kept
abbrev pub word_found_in : List ℕ → FoundWord → EventContent
word_found_in word found.Command = Read (command_in word)
word_found_in word found.BadSize = BadSize
word_found_in word found.BadStart = BadStart
word_found_in word found.BadEnd = BadEnd
word_found_in word (found.Stray byte) = Stray byte
