-- What a framer keeps, and what it does with one byte or with a run of bytes.
use Rattle.std.specs.Prelude.{◌≡◌, ◌≢◌, ℕ, ◌+◌, ◌<◌, ◌≤◌, List, [], ◌++◌, length, take, drop, slice_index, option_map, Option, Some}
use Rattle.dgt_values.specs.Bytes.{AreSevenBit}
use Rattle.dgt_decode.specs.declared.event.Event.{Event as CodeEvent}
use Rattle.dgt_decode.specs.declared.event.Found.{Found}
use Rattle.dgt_decode.specs.declared.event.Found.TheVariants as found
use Rattle.dgt_decode.specs.declared.framer.FramerState.{FramerState}
use Rattle.dgt_decode.specs.declared.framer.FramerState.TheVariants.{Hunting, Head, Body, Whole}
use Rattle.dgt_decode.specs.Grammar.{Placed, announced_total, at_place, unfinished_message}
use Rattle.dgt_decode.specs.Feeding.{FirstEvent, IsWholeMessage, event_content, event_found_in}

-- how many of the bytes kept were received, by the framer's state
abbrev pub IsKept : FramerState → List ℕ → Type 0
IsKept Hunting kept = kept ≡ []
IsKept Head kept = (unfinished_message kept ≡ kept) × (0 < length kept) × (length kept < 3)
IsKept (Body left) kept =
    (unfinished_message kept ≡ kept) × (3 ≤ length kept) × (0 < left)
    × (announced_total kept ≡ length kept + left)
IsKept Whole kept = IsWholeMessage kept

-- A framer that kept these bytes has taken a run of bytes, of which only the last may complete an
-- event. It then holds what is unfinished. It keeps a message that the run completed, or otherwise
-- only what is unfinished.
pub record Frames (kept run new : List ℕ) (what : Option Found) : Type 0 where
  pub first : FirstEvent (unfinished_message kept) run (length run)
      (option_map (event_found_in new) what)
  pub held : unfinished_message new ≡ unfinished_message (unfinished_message kept ++ run)
  pub whole : what ≡ Some found.Message → IsWholeMessage new
  pub came : what ≡ Some found.Message → new ≡ unfinished_message kept ++ run
  pub unfinished : what ≢ Some found.Message → unfinished_message new ≡ new

-- The first of the remaining bytes of a chunk, at least one, are such a run.
pub record FramesPrefix (kept rest : List ℕ) (used : ℕ) (new : List ℕ) (what : Option Found)
    : Type 0 where
  pub some : 0 < used
  pub within : used ≤ length rest
  pub frames : Frames kept (take used rest) new what

-- A message of this length begins with the first of these, and all of its header was received.
pub record Begins (total : ℕ) (bytes : List ℕ) : Type 0 where
  pub first : 128 ≤ slice_index bytes 0
  pub header : AreSevenBit (take 2 (drop 1 bytes))
  pub enough : 3 ≤ length bytes
  pub is : total ≡ announced_total bytes
  pub large : 3 ≤ total

-- an event at its place, as reported by a program that cuts a whole list of bytes
abbrev pub placed_content : ℕ × CodeEvent → Placed
placed_content reported = at_place reported.0 (event_content reported.1)
