-- The events of bytes that come after others, and what an engine keeps of them.
use Rattle.std.proofs.{Common.{◌≡◌, ℕ, ◌+◌, ◌≤◌, List, [], ◌++◌, Option, Some, IfSome, MatchOption, length, take, rules}, lemmas.{Grind.{flat_map-append}, List.{length-take-le}}}
use Rattle.{std.proofs.lemmas.List.{take-take, take_all}, dgt_decode.specs.{Feeding.{FirstEvent, IsWholeMessage, at_place_if_any, chunk_events}, Grammar.{Event, message_event, unfinished_message}}}
use Rattle.{dgt_decode.{specs.Laws.{ChunksAdd}, proofs.{Beginnings.{frames-whole}, Wholes.{whole_unfinished}}}, dgt_lines.specs.Lines.{events_after, lines, lines_after}}

-- the lines of bytes, and of a chunk after them
pub lines-append : ChunksAdd → (bytes chunk : List ℕ) → lines (bytes ++ chunk)
    ≡ lines bytes ++ lines_after (unfinished_message bytes) (length bytes) chunk
lines-append chunks bytes chunk = search (rules, flat_map-append)

-- ---- a call of `advance` with a chunk, of which it used n bytes, if the framer held this before

-- all events of these bytes
first_events : (held chunk : List ℕ) (n : ℕ) (event : Option Event) → FirstEvent held chunk n event
    → chunk_events held (take n chunk) ≡ at_place_if_any n event
first_events held chunk n event h = search (rules, take_all)

module _ (kept bytes chunk : List ℕ) (n : ℕ)
    (same : unfinished_message kept ≡ unfinished_message bytes) where
  -- after bytes of which it held what is unfinished
  pub events_found : (offset : ℕ) (event : Option Event)
      → FirstEvent (unfinished_message kept) chunk n event → offset ≡ length bytes
      → events_after (unfinished_message bytes) (length bytes) (take n chunk)
      ≡ at_place_if_any (offset + n) event
  events_found offset event h counted = search (rules, first_events)

-- ---- a whole message at the front of bytes, if the framer holds nothing

module _ (kept rest : List ℕ) (n : ℕ) (none : unfinished_message kept ≡ [])
    (within : n ≤ length rest)
    (whole : IsWholeMessage (take n rest)) where
  -- it is the first event
  pub first_whole : FirstEvent (unfinished_message kept) rest n (Some (message_event (take n rest)))
  first_whole =
      let found =
      rw (length-take-le n rest within) at (frames-whole kept rest n none within
      whole).frames.first in
      search (rules, take-take)

  -- nothing is unfinished after it
  pub held_whole : unfinished_message kept
      ≡ unfinished_message (unfinished_message kept ++ take n rest)
  held_whole = search (rules, whole_unfinished)

pub some_of : {A : Type 0} (P : Type 0) (Q R : A → Type 0) (o : Option A) → ((a : A) → Q a → R a)
    → MatchOption o P Q → IfSome o R
some_of P Q R o f m = search rules
