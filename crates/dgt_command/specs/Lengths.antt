-- How long frames are, and reading up to the end of one.
use Rattle.std.specs.Prelude.{◌≡◌, ℕ, ◌+◌, ◌<◌, ◌≤◌, ◌==◌, List, ◌++◌, length, take, slice_index as nth, nat_lt, Bool, false, IsTrue, if◌then◌else◌}
use Rattle.dgt_command.specs.Content.{EventContent}
use Rattle.dgt_command.specs.Words.{IsPartial, IsWord}

-- some event has this frame
abbrev pub IsWholeWord : List ℕ → Type 0
IsWholeWord word = (event : EventContent) × IsWord event word

-- The length of the frame that begins with these bytes, as far as the first three determine it. A
-- missing byte counts as 0: the length is then more than the number of bytes.
abbrev pub word_length : List ℕ → ℕ
word_length bytes =
    if nth bytes 0 == 0x2b then clock_length bytes
    else if nth bytes 0 == 0x60 then nth bytes 1 + 2
    else 1
  where
    clock_length : List ℕ → ℕ
    clock_length bytes =
        if nat_lt (nth bytes 1) 3 then 2 else if nth bytes 2 == 0x03 then nth bytes 1 + 2 else 3

-- This many bytes of the chunk are added to a part of a frame: up to the one that completes the
-- frame, or all.
pub record Adds (part chunk new : List ℕ) (count : ℕ) (is_whole : Bool) : Type 0 where
  pub used : count ≤ length chunk
  pub word : new ≡ part ++ take count chunk
  pub whole : IsTrue is_whole → IsWholeWord new
  pub partial : is_whole ≡ false → IsPartial new
  pub all : is_whole ≡ false → count ≡ length chunk
  pub progress : 0 < length chunk → 0 < count
