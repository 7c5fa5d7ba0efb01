-- The states of a framer, byte by byte.
use Rattle.std.proofs.Common.{option_map, ◌≡◌, ◌≢◌, ℕ, zero, suc, ◌+◌, ◌*◌, ◌-◌, ◌<◌, ◌≤◌, ◌⊎◌, inl, List, [], ◌∷◌, ◌++◌, length, drop, Option, Some, None, subst, arith, rules}
use Rattle.{std.{proofs.lemmas.{Grind.{common_steps}, List.{length-append, nil_from_length}}, specs.Prelude.{◌==◌, if◌then◌else◌, slice_index}}, dgt_decode.specs.Feeding.{IsWholeMessage}}
use Rattle.dgt_decode.specs.{Feeding.{at_place_if_any, event_found_in}, Grammar.{announced_total, events, unfinished_message}, Taking.{Frames, FramesPrefix, IsKept}, declared.event.Found.{Found}}
use Rattle.dgt_decode.{specs.declared.framer.FramerState.{FramerState, TheVariants.{Hunting, Head, Body, Whole}}, proofs.{Appending.{IsAlone}, Bytes.{IsAlone-parts, nothing_held, quiet_unfinished}}}
use Rattle.dgt_decode.proofs.{Bytes.{held_room}, SevenBit.{SevenByRecursion, are_seven}, Steps.{IsHeld, IsHeld-unfinished, IsAlone-more, alone_held, first-begins, first-stray, next-begins}}
use Rattle.dgt_decode.proofs.{Steps.{next-short, next-bad, next-waits, next-whole}, Verdicts.{announced_total-append}, Wholes.{whole_unfinished}}
use Rattle.dgt_decode.specs.declared.event.Found.TheVariants as found

-- ---- What is unfinished

-- between messages nothing is unfinished
pub closed : (state : FramerState) (kept : List ℕ) → IsKept state kept
    → (state ≡ Hunting) ⊎ (state ≡ Whole) → unfinished_message kept ≡ []
closed state kept is here = search (rules, nothing_held, whole_unfinished)

-- within a message, all bytes kept are unfinished
pub kept_unfinished : (state : FramerState) (kept : List ℕ) → IsKept state kept → (state ≡ Head)
    ⊎ ((left : ℕ) × (state ≡ Body left)) → unfinished_message kept ≡ kept
kept_unfinished state kept is here = search rules

-- ---- A byte that begins a message

-- the first byte of a message is kept
pub kept-first : (b : ℕ) → 128 ≤ b → IsKept Head (b ∷ [])
kept-first b top = ((first-begins b top).leaves, omega arith, omega arith)

-- it reports nothing if nothing was unfinished
pub frames-first : (kept : List ℕ) (b : ℕ) → length (unfinished_message kept) ≡ 0 → 128 ≤ b
    → Frames kept (b ∷ []) (b ∷ []) None
frames-first kept b none top =
    let nothing : unfinished_message kept ≡ [] = nil_from_length (unfinished_message kept) none in
    let begins = first-begins b top in
    search (rules, quiet_unfinished)

-- it reports a Cut if a message was unfinished
pub frames-cut : (kept : List ℕ) (b : ℕ) → 0 < length (unfinished_message kept) → 128 ≤ b
    → Frames kept (b ∷ []) (b ∷ []) (Some (found.Cut (length (unfinished_message kept))))
frames-cut kept b some top =
    let g = next-begins (unfinished_message kept) b (IsHeld-unfinished kept) some top in
    let begins = first-begins b top in
    search (rules, quiet_unfinished)

-- ---- A byte outside a message

-- a seven-bit byte is stray if nothing was unfinished
pub frames-stray : (kept : List ℕ) (b : ℕ) → unfinished_message kept ≡ [] → b < 128
    → Frames kept (b ∷ []) [] (Some (found.Stray b))
frames-stray kept b none seven =
    let g = first-stray b seven in
    search (rules, quiet_unfinished, nothing_held)

-- a stray byte is taken on its own
pub prefix-stray : (kept rest : List ℕ) → unfinished_message kept ≡ [] → 0 < length rest
    → slice_index rest 0 < 128
    → FramesPrefix kept rest 1 [] (Some (found.Stray (slice_index rest 0)))
prefix-stray kept [] none some seven = absurd (omega (arith, some))
prefix-stray kept (b ∷ rest) none some seven = search (rules, frames-stray)

-- ---- A byte of the header

-- the second byte of a message reports nothing
pub frames-short : (state : FramerState) (kept : List ℕ) (b : ℕ) → IsKept state kept → state ≡ Head
    → length kept ≡ 1 → b < 128
    → Frames kept (b ∷ []) (kept ++ b ∷ []) None × IsKept Head (kept ++ b ∷ [])
frames-short state kept b is head one seven =
    let h = kept_unfinished state kept is (inl head) in
    let long : length (kept ++ b ∷ []) ≡ 2 = omega (arith, length-append kept (b ∷ [])) in
    let g = next-short kept (b ∷ []) h (omega arith) (seven, tt) (omega arith) in
    (search rules)

-- after the first byte there are two
two_kept : (state : FramerState) (kept : List ℕ) → IsKept state kept → state ≡ Head
    → length kept ≢ 1 → IsHeld kept × (length kept ≡ 2)
two_kept state kept is head more = search rules

-- the third byte ends the total
pub head_total : (kept : List ℕ) (b : ℕ) → length kept ≡ 2
    → announced_total (kept ++ b ∷ []) ≡ 128 * slice_index kept 1 + b
head_total kept b two = grind (arith, common_steps)

-- a total below 3 is reported as a bad length
pub frames-bad : (state : FramerState) (kept : List ℕ) (b : ℕ) → IsKept state kept → state ≡ Head
    → length kept ≢ 1 → b < 128 → 128 * slice_index kept 1 + b < 3
    → Frames kept (b ∷ []) [] (Some found.BadLength)
frames-bad state kept b is head more seven small =
    let (h, two) = two_kept state kept is head more in
    let long : length (kept ++ b ∷ []) ≡ 3 = omega (arith, length-append kept (b ∷ [])) in
    let g = next-bad kept (b ∷ []) h (omega arith) (seven, tt) long
    (omega (arith, head_total kept b two)) in
    search (rules, quiet_unfinished, nothing_held)

-- ---- A later byte

-- the state and the result, if this many bytes are missing
abbrev pub after : ℕ → FramerState × Option Found
after left = if left == 0 then (Whole, Some found.Message) else (Body left, None)

-- bytes of one segment are seven-bit from the second on
later_seven : (g : List ℕ) → IsAlone g → SevenByRecursion (drop 1 g)
later_seven [] alone = tt
later_seven (b ∷ bytes) alone = (IsAlone-parts b bytes alone).1

-- the effect of seven-bit bytes of a message
pub record ReportsRun (kept run : List ℕ) (what : Option Found) : Type 0 where
  pub reported : events (kept ++ run) ≡ at_place_if_any (length kept + length run)
      (option_map (event_found_in (kept ++ run)) what)
  pub message : what ≡ Some found.Message → IsWholeMessage (kept ++ run)
  pub unfinished : what ≢ Some found.Message → IsHeld (kept ++ run)

-- they end it if none is left, and report nothing otherwise
pub reports-after : (kept run : List ℕ) (left : ℕ) → IsHeld kept → 2 ≤ length kept → 0 < length run
    → SevenByRecursion run → announced_total (kept ++ run) ≡ length (kept ++ run) + left
    → ReportsRun kept run (after left).1 × IsKept (after left).0 (kept ++ run)
reports-after kept run zero h two more seven all =
    let some : 0 < length kept = omega arith in
    let count : length (kept ++ run) ≡ length kept + length run = length-append kept run in
    let long : 3 ≤ length (kept ++ run) = omega arith in
    let same : announced_total (kept ++ run) ≡ length (kept ++ run) = omega (arith, all) in
    let g = next-whole kept run h some seven long same in
    let alone = IsAlone-more kept run (alone_held kept h some).0 seven in
    search (rules, are_seven, later_seven)
reports-after kept run (suc left) h two more seven all =
    let count : length (kept ++ run) ≡ length kept + length run = length-append kept run in
    let g = next-waits kept run h (omega arith) seven (omega (arith, all)) in
    search rules

-- so does one byte
pub frames-after : (kept : List ℕ) (b left : ℕ) → IsHeld kept → 2 ≤ length kept → b < 128
    → announced_total (kept ++ b ∷ []) ≡ length (kept ++ b ∷ []) + left
    → Frames kept (b ∷ []) (kept ++ b ∷ []) (after left).1 × IsKept (after left).0 (kept ++ b ∷ [])
frames-after kept b left h two seven all =
    let t = reports-after kept (b ∷ []) left h two (omega arith) (seven, tt) all in
    (search (rules, quiet_unfinished))

-- a byte of the body does
pub frames-body : (state : FramerState) (kept : List ℕ) (b left : ℕ) → IsKept state kept
    → state ≡ Body left → b < 128
    → Frames kept (b ∷ []) (kept ++ b ∷ []) (after (left - 1)).1
    × IsKept (after (left - 1)).0 (kept ++ b ∷ [])
frames-body state kept b left was body seven =
    let is : IsKept (Body left) kept = subst (λ s. IsKept s kept) body was in
    let count : length (kept ++ b ∷ []) ≡ length kept + 1 = length-append kept (b ∷ []) in
    frames-after kept b (left - 1) is.0 (omega (arith, is.1)) seven
    (omega (arith, announced_total-append kept (b ∷ []) is.1, is.2, is.3))

-- the effect of the third byte of a header, also without a body
pub frames-head : (state : FramerState) (kept : List ℕ) (b high low : ℕ) → IsKept state kept
    → state ≡ Head → length kept ≢ 1 → b < 128 → high ≡ slice_index kept 1 → low ≡ b
    → 3 ≤ 128 * high + low
    → let left = 128 * high + low - 3 in
    Frames kept (b ∷ []) (kept ++ b ∷ []) (after left).1 × IsKept (after left).0 (kept ++ b ∷ [])
frames-head state kept b high low is head more seven second third large =
    let (h, two) = two_kept state kept is head more in
    let count : length (kept ++ b ∷ []) ≡ length kept + 1 = length-append kept (b ∷ []) in
    frames-after kept b (128 * high + low - 3) h (omega arith) seven
    (omega (arith, head_total kept b two, second, third))

-- a message that isn't whole leaves room
pub kept_room : (state : FramerState) (kept : List ℕ) → IsKept state kept → (state ≡ Head)
    ⊎ ((left : ℕ) × (state ≡ Body left)) → length kept < 16383
kept_room state kept is here = held_room kept (kept_unfinished state kept is here)
