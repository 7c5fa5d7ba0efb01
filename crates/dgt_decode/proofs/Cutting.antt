-- A program that cuts a whole list, segment by segment.
use Rattle.std.proofs.Common.{map, ◌≡◌, ℕ, suc, ◌+◌, ◌-◌, ◌<◌, ◌≤◌, Bool, List, [], ◌∷◌, ◌++◌, length, take, drop, get_or, Some, nat_eq, add-one, refl, sym, ap, subst, ◌∙◌, append_assoc, arith, rules}
use Rattle.std.proofs.{Math.Seq.{drop-cons, drop-length}, lemmas.{Bool.{le-leb}, Grind.{common_steps}, List.{append-nil, append_cancel_left, drop-drop, map-append, take-append-drop}}}
use Rattle.{std.specs.Prelude.{if◌then◌else◌}, dgt_decode.specs.{Feeding.{event_content}, Grammar.{Stray, Placed, at_place, shifted, strays, lead, segments, verdict, segment_events, unfinished_part}}}
use Rattle.dgt_decode.{specs.Grammar.{cut_of}, proofs.{Appending.{lead-seven, segments-seven}, Cuts.{lead-append, segments-append}, Places.{shifted-append, shifted-shifted, shifted-zero}}}
use Rattle.dgt_decode.proofs.{Places.{strays-append}, SevenBit.{SevenByRecursion, are_seven}}
use Rattle.dgt_decode.{specs.{Grammar.{cut_before, segments_events, events}, Laws.{IsSegment}, Taking.{placed_content}, declared.event.Event.{Event as CodeEvent}}, proofs.Appending.{lead-is_seven}}
use Rattle.dgt_decode.specs.declared.event.Event.TheVariants as code_events

-- ---- The lead

-- the lead is a seven-bit prefix, and the lead of the rest
lead_split : (bytes : List ℕ) (i : ℕ) → SevenByRecursion (take i bytes)
    → lead bytes ≡ take i bytes ++ lead (drop i bytes)
lead_split bytes i seven =
    let whole = take-append-drop i bytes in
    search (rules, lead-append, lead-seven, segments-seven)

-- the lead ends at the first byte with a set top bit
pub lead_here : (bytes : List ℕ) (i : ℕ) → i < length bytes → 128 ≤ get_or bytes i 0
    → SevenByRecursion (take i bytes) → take i bytes ≡ lead bytes
lead_here bytes i within top seven = search (rules, lead_split, drop-cons, le-leb)

-- with no such byte it is the whole
pub lead_all : (bytes : List ℕ) (i : ℕ) → i ≡ length bytes → SevenByRecursion (take i bytes)
    → take (length bytes) bytes ≡ lead bytes
lead_all bytes i end seven = search (rules, lead_split, drop-length)

-- after the lead there is a byte with a set top bit, or none
pub lead_stops : (bytes : List ℕ) (i : ℕ) → take i bytes ≡ lead bytes → lead (drop i bytes) ≡ []
lead_stops bytes i is =
    let seven : SevenByRecursion (take i bytes)
    = subst (λ (x : List ℕ). SevenByRecursion x) (sym is) (lead-is_seven bytes) in
    append_cancel_left (take i bytes) (lead (drop i bytes)) []
    (sym (lead_split bytes i seven) ∙ sym is ∙ sym (append-nil (take i bytes)))

-- the segments are after the lead
segments_behind : (bytes : List ℕ) (i : ℕ) → take i bytes ≡ lead bytes
    → segments bytes ≡ segments (drop i bytes)
segments_behind bytes i is =
    let whole = take-append-drop i bytes in
    search (rules, segments-append, segments-seven, lead-is_seven)

-- ---- Strays

-- one more Stray
pub strays_more : (before i : ℕ) (bytes : List ℕ) → i < length bytes
    → shifted before (strays (take i bytes)) ++ at_place (before + i + 1) (Stray (get_or bytes i 0))
    ∷ [] ≡ shifted before (strays (take (i + 1) bytes))
strays_more before i bytes within = grind (arith, common_steps, strays-append, shifted-append)

-- one more Stray is reported
pub reported_stray : (old reported new : List (ℕ × CodeEvent)) (before i : ℕ) (bytes : List ℕ)
    → i < length bytes
    → map placed_content reported ≡ map placed_content old ++ shifted before (strays (take i bytes))
    → new ≡ reported ++ (before + i + 1, code_events.Stray (get_or bytes i 0)) ∷ []
    → map placed_content new
    ≡ map placed_content old ++ shifted before (strays (take (i + 1) bytes))
reported_stray old reported new before i bytes within so_far pushed =
    search (rules, map-append, strays_more, append_assoc)

-- ---- A segment

-- the Cut at the end of a segment
abbrev pub cut_after : Bool → List ℕ → List Placed
cut_after is_last unfinished = if is_last then [] else cut_of unfinished

-- the verdict and the strays after it are reported
pub reported_verdict : (old mid new : List (ℕ × CodeEvent)) (before place : ℕ) (event : CodeEvent)
    (g rest : List ℕ) (is_last : Bool) → Some (at_place place (event_content event)) ≡ verdict g
    → mid ≡ old ++ (before + place, event) ∷ [] → rest ≡ drop place g
    → map placed_content new ≡ map placed_content mid ++ shifted (before + place) (strays rest)
    → map placed_content new
    ≡ map placed_content old
    ++ shifted before
    (segment_events (verdict g) g
    ++ shifted (length g) (cut_after is_last (unfinished_part (verdict g) g)))
reported_verdict old mid new before place event g rest is_last is pushed same reported =
    search (rules, map-append, shifted-shifted, append_assoc)

-- ---- The whole list

-- the reported events of the bytes before the beginning of a segment, or the end
pub record HasReported (bytes : List ℕ) (start : ℕ) (reported : List Placed) : Type 0 where
  pub within : start ≤ length bytes
  pub no_lead : lead (drop start bytes) ≡ []
  pub so_far : reported ++ shifted start (segments_events (segments (drop start bytes)))
      ≡ events bytes

-- the Strays of the lead are reported
pub reported_lead : (bytes : List ℕ) (start : ℕ) (reported : List Placed) → start ≤ length bytes
    → take start bytes ≡ lead bytes
    → reported ≡ shifted 0 (strays (take start bytes)) → HasReported bytes start reported
unfolding events
reported_lead bytes start reported within is so_far =
    search (rules, lead_stops, shifted-zero, segments_behind)

-- the byte at a place, and the bytes after it
from_here : (bytes : List ℕ) (start : ℕ) → start < length bytes
    → drop start bytes ≡ get_or bytes start 0 ∷ drop (start + 1) bytes
from_here bytes start more = rw (add-one, drop-cons bytes start 0 more) refl

-- there is a Cut if another segment follows
cut_here : (bytes : List ℕ) (end : ℕ) (u : List ℕ) → end ≤ length bytes → lead (drop end bytes) ≡ []
    → cut_before (segments (drop end bytes)) u ≡ cut_after (nat_eq end (length bytes)) u
cut_here bytes end u within none = search (rules, from_here, drop-length)

-- the next segment: the byte with a set top bit, and the lead of the bytes after it
pub record IsNext (bytes : List ℕ) (start count : ℕ) (segment : List ℕ) : Type 0 where
  pub top : 128 ≤ get_or bytes start 0
  pub is : segment ≡ get_or bytes start 0 ∷ lead (drop (start + 1) bytes)
  pub size : length segment ≡ 1 + count
  pub stops : take count (drop (start + 1) bytes) ≡ lead (drop (start + 1) bytes)

-- the next segment ends where the lead of the bytes after its first byte does
pub next_segment : (bytes : List ℕ) (start count : ℕ) (reported : List Placed)
    → HasReported bytes start reported → start < length bytes
    → take count (drop (start + 1) bytes) ≡ lead (drop (start + 1) bytes)
    → count ≤ length (drop (start + 1) bytes)
    → IsNext bytes start count (take (start + 1 + count - start) (drop start bytes))
next_segment bytes start count reported h more is within =
    let at = from_here bytes start more in
    let gap : start + 1 + count - start ≡ suc count = omega arith in
    search rules

-- it is a segment
pub IsSegment-next : (bytes : List ℕ) (start count : ℕ) (segment : List ℕ)
    → IsNext bytes start count segment → IsSegment segment
IsSegment-next bytes start count segment n = search (rules, are_seven, lead-is_seven)

-- places of the next events are counted from the start of the whole
regrouped : (reported a c e : List Placed) (start n end : ℕ) → start + n ≡ end
    → (reported ++ shifted start (a ++ shifted n c)) ++ shifted end e ≡ reported
    ++ shifted start
    (a ++ shifted n (c ++ e))
regrouped reported a c e start n end same =
    rw (← same) (simp (shifted-append, shifted-shifted, append_assoc))

-- the events of the next segment are reported
pub reported_segment : (bytes : List ℕ) (start count end : ℕ) (reported new : List Placed)
    (segment : List ℕ) → HasReported bytes start reported → start < length bytes
    → IsNext bytes start count segment → end ≡ start + 1 + count → end ≤ length bytes
    → new ≡ reported
    ++ shifted start
    (segment_events (verdict segment) segment ++ shifted (length segment)
    (cut_after (nat_eq end (length bytes)) (unfinished_part (verdict segment) segment)))
    → HasReported bytes end new
reported_segment bytes start count end reported new segment h more n e within pushed =
    let behind : drop count (drop (start + 1) bytes) ≡ drop end bytes =
    drop-drop count (start + 1) bytes ∙ ap (λ (k : ℕ). drop k bytes) (sym e) in
    search (rules, lead_stops, segments_behind, from_here, cut_here, regrouped)
