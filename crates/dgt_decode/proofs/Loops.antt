-- A loop over the bytes of a chunk, which takes them one by one or run by run.
use Rattle.std.proofs.Common.{◌≡◌, ◌≢◌, ℕ, ◌+◌, ◌-◌, ◌<◌, ◌≤◌, true, false, List, [], ◌∷◌, ◌++◌, length, take, drop, get_or, option_map, Option, Some, None, ap, ◌∙◌, append_assoc, arith, rules}
use Rattle.std.{proofs.{Math.Seq.{drop-cons, take-add, take-length}, lemmas.List.{length-append, length-drop, length-take, length-take-le, take-take}}, specs.Prelude.{is_some}}
use Rattle.dgt_decode.specs.{Feeding.{FirstEvent, IsWholeMessage, at_place_if_any, event_found_in}, Grammar.{Event, at_place, events, unfinished_message}, Taking.{Frames, FramesPrefix}}
use Rattle.dgt_decode.{specs.declared.event.Found.{Found}, proofs.{Appending.{events-append}, Division.{quiet_held}, Feeds.{FirstEvent-some}, Steps.{IsHeld, IsUnfinished-held}}}
use Rattle.dgt_decode.proofs.UnfinishedLemmas.{events-of_unfinished, unfinished-append, length-unfinished}
use Rattle.dgt_decode.specs.declared.event.Found.TheVariants as found

-- The event of p after s, which has none, is that of p after what s leaves unfinished.
pub events-more : (s p : List ℕ) (n : ℕ) (event : Option Event) → events s ≡ []
    → events (unfinished_message s ++ p) ≡ at_place_if_any (length (unfinished_message s) + n) event
    → events (s ++ p) ≡ at_place_if_any (length s + n) event
events-more s p n event quiet now = search (rules, length-unfinished, events-append)

-- Such a reader has taken i bytes of the chunk without an event, and holds this.
pub record HasTaken (held chunk : List ℕ) (i : ℕ) (now : List ℕ) : Type 0 where
  pub holds : now ≡ unfinished_message (held ++ take i chunk)
  pub quiet : events (held ++ take i chunk) ≡ []

-- at first no byte of the chunk is taken
pub taken_none : (held chunk : List ℕ) → IsHeld held → HasTaken held chunk 0 held
taken_none held chunk h = search (rules, events-of_unfinished, IsUnfinished-held)

-- ---- a run of bytes: from i to j

-- the bytes from i to j are this run
abbrev pub IsRun : List ℕ → ℕ → List ℕ → ℕ → Type 0
IsRun chunk i run j = take j chunk ≡ take i chunk ++ run

-- after a run the unfinished bytes are those of all bytes to its end
pub run_holds : (held chunk : List ℕ) (i j : ℕ) (now run : List ℕ) → IsRun chunk i run j
    → HasTaken held chunk i now
    → unfinished_message (now ++ run) ≡ unfinished_message (held ++ take j chunk)
run_holds held chunk i j now run r t = search (rules, append_assoc, unfinished-append)

-- a run reports the same as all bytes to its end
pub run_reported : (held chunk : List ℕ) (i j n : ℕ) (now run : List ℕ) (event : Option Event)
    → IsRun chunk i run j → HasTaken held chunk i now
    → events (now ++ run) ≡ at_place_if_any (length now + n) event
    → events (held ++ take j chunk) ≡ at_place_if_any (length (held ++ take i chunk) + n) event
run_reported held chunk i j n now run event r t reported = search (rules, append_assoc, events-more)

-- a run without an event continues
pub run_quiet : (held chunk : List ℕ) (i j : ℕ) (now run : List ℕ) → IsRun chunk i run j
    → HasTaken held chunk i now → events (now ++ run) ≡ []
    → HasTaken held chunk j (unfinished_message (now ++ run))
run_quiet held chunk i j now run r t reported = record {
  holds = run_holds held chunk i j now run r t;
  quiet = run_reported held chunk i j 0 now run None r t reported;
}

-- the held bytes and a run are the earlier held bytes and all bytes to its end
pub run_came : (held chunk : List ℕ) (i j : ℕ) (now run : List ℕ) → IsRun chunk i run j
    → HasTaken held chunk i now → now ++ run ≡ held ++ take j chunk
run_came held chunk i j now run r t = search (rules, quiet_held, append_assoc)

-- ---- A step of a loop

-- one byte is a step
pub one_byte : (kept chunk : List ℕ) (i : ℕ) (new : List ℕ) (what : Option Found) → i < length chunk
    → Frames kept (get_or chunk i 0 ∷ []) new what → FramesPrefix kept (drop i chunk) 1 new what
one_byte kept chunk i new what within byte = search (rules, drop-cons)

-- the first bytes of a prefix are those of the whole
pub prefix_of_prefix : (kept rest : List ℕ) (n used : ℕ) (new : List ℕ) (what : Option Found)
    → FramesPrefix kept (take n rest) used new what → FramesPrefix kept rest used new what
prefix_of_prefix kept rest n used new what f = search (rules, length-take, take-take)

-- A framer that kept these bytes has taken the first ones of a chunk without an event, and takes
-- some more.
module _ (kept chunk : List ℕ) (at used : ℕ) (now new : List ℕ) (what : Option Found)
    (taken : HasTaken (unfinished_message kept) chunk at (unfinished_message now))
    (step : FramesPrefix now (drop at chunk) used new what) where
  next : (n : ℕ) → IsRun chunk at (take n (drop at chunk)) (at + n)
  next n = take-add at n chunk

  -- it stays within the chunk
  pub step_within : at ≤ length chunk → at + used ≤ length chunk
  step_within within = omega (arith, step.within, length-drop at chunk, within)

  -- what it holds then
  pub step_held : unfinished_message new
      ≡ unfinished_message (unfinished_message kept ++ take (at + used) chunk)
  step_held = search (rules, run_holds, next)

  -- the bytes received
  pub step_came : what ≡ Some found.Message
      → new ≡ unfinished_message kept ++ take (at + used) chunk
  step_came e = search (rules, run_came, next)

  -- the step that makes the first event ends the call
  event_first : (event : Event) → at ≤ length chunk
      → FirstEvent (unfinished_message now) (take used (drop at chunk))
      (length (take used (drop at chunk))) (Some event)
      → FirstEvent (unfinished_message kept) chunk (at + used) (Some event)
  event_first event within first =
      let run = take used (drop at chunk) in
      let held = unfinished_message kept in
      let count : length run ≡ used = length-take-le used (drop at chunk) step.within in
      let place : length (held ++ take at chunk) + used ≡ length held + (at + used) =
      omega (arith, length-append held (take at chunk), length-take at chunk, within) in
      let last : at + used ≡ at + (used - 1) + 1 = omega (arith, step.some) in
      let early : take (used - 1) run ≡ take (used - 1) (drop at chunk) =
      take-take (used - 1) used (drop at chunk) (omega arith) in
      let quiet : events (unfinished_message now ++ take (used - 1) (drop at chunk)) ≡ [] =
      rw early at (first.2 (used - 1) (omega (arith, count, step.some))) in
      let reported : events (unfinished_message now ++ run)
      ≡ at_place (length (unfinished_message now) + used) event ∷ [] =
      search (rules, take-length) in
      FirstEvent-some held chunk (at + (used - 1)) (at + used) event last (step_within within)
      (run_reported held chunk at (at + (used - 1)) 0 (unfinished_message now)
      (take (used - 1) (drop at chunk)) None (next (used - 1)) taken quiet)
      (run_reported held chunk at (at + used) used (unfinished_message now) run (Some event)
      (next used) taken reported ∙ ap (λ (n : ℕ). at_place n event ∷ []) place)

-- with something found
pub found_first : (kept chunk : List ℕ) (at used : ℕ) (now new : List ℕ) (what : Option Found)
    → HasTaken (unfinished_message kept) chunk at (unfinished_message now)
    → FramesPrefix now (drop at chunk) used new what → at ≤ length chunk → is_some what ≡ true
    → FirstEvent (unfinished_message kept) chunk (at + used) (option_map (event_found_in new) what)
found_first kept chunk at used now new None taken step within some = absurd cc
found_first kept chunk at used now new (Some it) taken step within some =
    search (rules, event_first)

-- with nothing found
pub found_none : (kept chunk : List ℕ) (at used : ℕ) (now new : List ℕ) (what : Option Found)
    → HasTaken (unfinished_message kept) chunk at (unfinished_message now)
    → FramesPrefix now (drop at chunk) used new what → is_some what ≡ false
    → HasTaken (unfinished_message kept) chunk (at + used) (unfinished_message new)
found_none kept chunk at used now new None taken step none = rw step.frames.held
    (search (rules, run_quiet, take-add))
found_none kept chunk at used now new (Some it) taken step none = absurd cc

-- nor a message
pub not_found : (what : Option Found) → is_some what ≡ false → what ≢ Some found.Message
not_found what none = search rules

-- ---- What a loop over bytes has framed

-- nothing so far
pub frames_none : (kept bytes now : List ℕ) (n : ℕ) → 0 < n → n ≤ length bytes
    → HasTaken (unfinished_message kept) bytes n (unfinished_message now) → IsHeld now
    → FramesPrefix kept bytes n now None
frames_none kept bytes now n some within taken unfinished = search rules

-- something at its last byte
pub frames_found : (kept bytes : List ℕ) (n : ℕ) (new : List ℕ) (it : Found)
    → FirstEvent (unfinished_message kept) bytes n (Some (event_found_in new it)) → 0 < n
    → unfinished_message new ≡ unfinished_message (unfinished_message kept ++ take n bytes)
    → (it ≡ found.Message → IsWholeMessage new)
    → (it ≡ found.Message → new ≡ unfinished_message kept ++ take n bytes)
    → (it ≢ found.Message → IsHeld new) → FramesPrefix kept bytes n new (Some it)
frames_found kept bytes n new it first some held whole came unfinished = search (rules, take-take)
