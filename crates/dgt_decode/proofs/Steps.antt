-- The effect of one more byte, or a run of seven-bit bytes, on the unfinished message.
use Rattle.dgt_decode.proofs.{Anew.{shifted_unfinished, unfinished_behind_unfinished}, Verdicts.{verdict-none, verdict-short, verdict-bad, verdict-waits, verdict-whole, verdict-full, Stage, short}}
use Rattle.dgt_decode.{proofs.Verdicts.{waits, bad, whole, stage_of, announced_total-append}, specs.Grammar.{Cut, BadLength, Stray, Placed, at_place, announced_total, message_event, verdict}}
use Rattle.dgt_decode.{specs.Grammar.{segment_events, unfinished_part, events, unfinished_message}, proofs.{Appending.{IsAlone, lead-seven, segments-seven}, Cuts.{lead-append, segments-append}}}
use Rattle.dgt_decode.proofs.{SevenBit.{SevenByRecursion}, UnfinishedLemmas.{IsUnfinished, nothing, waiting, IsUnfinished-unfinished, unfinished-of_unfinished, events-of_unfinished, events-alone}}
use Rattle.{dgt_decode.proofs.UnfinishedLemmas.{unfinished-alone}, std.proofs.Common.{◌⊎◌, ◌≡◌, ℕ, ◌+◌, ◌<◌, ◌≤◌, List, [], ◌∷◌, ◌++◌, length, drop, Option, Some, None, refl, sym, ap, subst, ◌∙◌}}
use Rattle.std.proofs.{Common.{arith, inl, inr, rules}, Math.Seq.{drop-length}, lemmas.{Bool.{cases_lt}, List.{length-append}}}

-- a list that is held between two chunks
abbrev pub IsHeld : List ℕ → Type 0
IsHeld held = unfinished_message held ≡ held

-- the held bytes are nothing, or one unfinished segment
pub IsUnfinished-held : (held : List ℕ) → IsHeld held → IsUnfinished held
IsUnfinished-held held h = subst (λ (x : List ℕ). IsUnfinished x) h (IsUnfinished-unfinished held)

-- the unfinished bytes of a list can be held
pub IsHeld-unfinished : (s : List ℕ) → IsHeld (unfinished_message s)
IsHeld-unfinished s = unfinished-of_unfinished (unfinished_message s) (IsUnfinished-unfinished s)

-- the meaning of bytes: their events, and their unfinished rest
pub record Gives (bytes : List ℕ) (es : List Placed) (left : List ℕ) : Type 0 where
  pub reported : events bytes ≡ es
  pub leaves : unfinished_message bytes ≡ left

-- ---- nothing is held

-- a byte with a set top bit is held
pub first-begins : (b : ℕ) → 128 ≤ b → Gives (b ∷ []) [] (b ∷ [])
first-begins b top =
    search (rules, waiting, verdict-short, events-of_unfinished, unfinished-of_unfinished)

-- a seven-bit byte is stray
pub first-stray : (b : ℕ) → b < 128 → Gives (b ∷ []) (at_place 1 (Stray b) ∷ []) []
unfolding events unfinished_message
first-stray b seven = search rules

-- ---- a message is held

-- a segment continues with seven-bit bytes
pub IsAlone-more : (g run : List ℕ) → IsAlone g → SevenByRecursion run → IsAlone (g ++ run)
IsAlone-more g run alone seven =
    search (rules, lead-append, segments-append, lead-seven, segments-seven)

-- a held message is one unfinished segment
pub alone_held : (held : List ℕ) → IsHeld held → 0 < length held
    → IsAlone held × (verdict held ≡ None)
alone_held held h some = go held (IsUnfinished-held held h) some
  where
    go : (held : List ℕ) → IsUnfinished held → 0 < length held
        → IsAlone held × (verdict held ≡ None)
    go held nothing some = absurd (omega arith)
    go held (waiting g alone e) some = (alone, e)

-- a byte with a set top bit cuts it
pub next-begins : (held : List ℕ) (b : ℕ) → IsHeld held → 0 < length held → 128 ≤ b
    → Gives (held ++ b ∷ []) (at_place (length held + 1) (Cut (length held)) ∷ []) (b ∷ [])
next-begins held b h some top =
    let unfinished = IsUnfinished-held held h in
    let cuts = shifted_unfinished held unfinished b [] top in
    let rest = unfinished_behind_unfinished held unfinished b [] top in
    let begins = first-begins b top in
    search rules

-- seven-bit bytes continue it
pub next-seven : (held run : List ℕ) → IsHeld held → 0 < length held → SevenByRecursion run
    → Gives (held ++ run) (segment_events (verdict (held ++ run)) (held ++ run))
    (unfinished_part (verdict (held ++ run)) (held ++ run))
next-seven held run h some seven =
    search (rules, IsAlone-more, alone_held, events-alone, unfinished-alone)

-- as long as it is shorter than the header
pub next-short : (held run : List ℕ) → IsHeld held → 0 < length held → SevenByRecursion run
    → length (held ++ run) < 3 → Gives (held ++ run) [] (held ++ run)
next-short held run h some seven few =
    let gives = next-seven held run h some seven in
    search (rules, verdict-short)

-- as long as it is shorter than its total
pub next-waits : (held run : List ℕ) → IsHeld held → 0 < length held → SevenByRecursion run
    → length (held ++ run) < announced_total (held ++ run) → Gives (held ++ run) [] (held ++ run)
next-waits held run h some seven less =
    let gives = next-seven held run h some seven in
    search (rules, verdict-waits)

-- if the total in the header is too small
pub next-bad : (held run : List ℕ) → IsHeld held → 0 < length held → SevenByRecursion run
    → length (held ++ run) ≡ 3 → announced_total (held ++ run) < 3
    → Gives (held ++ run) (at_place 3 BadLength ∷ []) []
next-bad held run h some seven three small =
    let gives = next-seven held run h some seven in
    let long : 3 ≤ length (held ++ run) = omega arith in
    let e = verdict-bad (held ++ run) long small in
    let none : drop 3 (held ++ run) ≡ [] = rw (← three) (drop-length (held ++ run)) in
    record { reported = gives.reported ∙ rw (e, none) refl; leaves = gives.leaves ∙ rw e refl }

-- if the total is reached
pub next-whole : (held run : List ℕ) → IsHeld held → 0 < length held → SevenByRecursion run
    → 3 ≤ length (held ++ run) → announced_total (held ++ run) ≡ length (held ++ run)
    → Gives (held ++ run) (at_place (length (held ++ run)) (message_event (held ++ run)) ∷ []) []
next-whole held run h some seven long same =
    let gives = next-seven held run h some seven in
    let g = held ++ run in
    let e = verdict-full g long same in
    record {
      reported = gives.reported ∙ rw (e, drop-length g) refl;
      leaves = gives.leaves ∙ rw e refl;
    }

-- ---- One more byte

-- the verdict of a byte is at that byte
pub verdict-new : (h : List ℕ) (b : ℕ) (x : Placed) → verdict h ≡ None
    → verdict (h ++ b ∷ []) ≡ Some x → x.place ≡ length (h ++ b ∷ [])
verdict-new h b x e new = go early (stage_of (h ++ b ∷ []))
  where
    one_more : length (h ++ b ∷ []) ≡ length h + 1
    one_more = length-append h (b ∷ [])

    early : (length h < 3) ⊎ (length h < announced_total (h ++ b ∷ []))
    early = search (rules, verdict-none, announced_total-append, cases_lt)

    place_is : (y : Placed) → verdict (h ++ b ∷ []) ≡ Some y → y.place ≡ x.place
    place_is y f = let s : (let o : Option Placed = Some y in o) ≡ Some x = sym f ∙ new in
        let same : y ≡ x = cc in
        ap (λ (z : Placed). z.place) same

    go : (length h < 3) ⊎ (length h < announced_total (h ++ b ∷ [])) → Stage (h ++ b ∷ [])
        → x.place ≡ length (h ++ b ∷ [])
    go (inl few) (bad long small) =
        omega (arith, one_more, place_is _ (verdict-bad (h ++ b ∷ []) long small))
    go (inr less) (bad long small) = absurd (omega (arith, one_more))
    go (inl few) (whole large enough) =
        omega (arith, one_more, place_is _ (verdict-whole (h ++ b ∷ []) large enough))
    go (inr less) (whole large enough) =
        omega (arith, one_more, place_is _ (verdict-whole (h ++ b ∷ []) large enough))
    go _ (short few) = let no = verdict-short (h ++ b ∷ []) few in absurd cc
    go _ (waits less) = let no = verdict-waits (h ++ b ∷ []) less in absurd cc
