-- The cut is the only division of the list.
use Rattle.{std.{proofs.{Common.{◌≡◌, ℕ, List, [], ◌∷◌, ◌++◌, refl, rules}, lemmas.List.{append-nil}}, specs.List.{AllByRecursion, concat}}, dgt_decode.specs.Grammar.{Placed, shifted, strays, lead}}
use Rattle.dgt_decode.{specs.{Grammar.{segments, segments_events, unfinished_segment, events, unfinished_message}, Laws.{CutsInto, IsSegment}}, proofs.Appending.{IsAlone, IsAlone-from, lead-is_seven}}
use Rattle.dgt_decode.proofs.{Appending.{lead-seven, segments-seven}, Cuts.{lead-append, segments-append}, Feeds.{nil_left}, SevenBit.{SevenByRecursion, are_seven, by_recursion}}

-- the parts in a row are the list
pub whole : (s : List ℕ) → s ≡ lead s ++ concat (segments s)
whole [] = refl
whole (b ∷ s) = search (rules, whole s)

-- the segments are segments
pub are_segments : (s : List ℕ) → AllByRecursion IsSegment (segments s)
are_segments [] = tt
are_segments (b ∷ s) = search (rules, are_seven, lead-is_seven, are_segments s)

-- a segment is one segment by the cut
IsAlone-segment : (g : List ℕ) → IsSegment g → IsAlone g
IsAlone-segment [] h = absurd h
IsAlone-segment (b ∷ g) h = IsAlone-from b g h.0 (by_recursion g h.1)

-- segments in a row have no lead
lead-parts : (parts : List (List ℕ)) → AllByRecursion IsSegment parts → lead (concat parts) ≡ []
lead-parts [] h = refl
lead-parts (g ∷ parts) h = search rules

-- they are their own segments
segments-parts : (parts : List (List ℕ)) → AllByRecursion IsSegment parts
    → segments (concat parts) ≡ parts
segments-parts [] h = refl
segments-parts (g ∷ parts) h =
    let alone = IsAlone-segment g h.0 in
    search (rules, segments-append, lead-parts, append-nil, segments-parts parts h.1)

-- a seven-bit prefix is the lead
lead-divided : (prefix : List ℕ) (parts : List (List ℕ)) → SevenByRecursion prefix
    → AllByRecursion IsSegment parts → lead (prefix ++ concat parts) ≡ prefix
lead-divided prefix parts seven h = search (rules, lead-append, lead-seven, lead-parts)

-- the cut is a division
pub cut_divides : (s : List ℕ) → CutsInto (lead s) (segments s) s
cut_divides s = search (rules, are_seven, lead-is_seven, are_segments, whole)

-- the cut is the only division
pub one_cut : (s prefix : List ℕ) (parts : List (List ℕ)) → CutsInto prefix parts s
    → (prefix ≡ lead s) × (parts ≡ segments s)
one_cut s prefix parts d =
    search (rules, lead-divided, by_recursion, segments-append, segments-seven, segments-parts)

-- ---- bytes without an event

-- no events after bytes, no events
pub nil_raised : (n : ℕ) (xs : List Placed) → shifted n xs ≡ [] → xs ≡ []
nil_raised n [] e = refl
nil_raised n (x ∷ xs) e = absurd cc

-- no Strays, no bytes
nil_strays : (bytes : List ℕ) → strays bytes ≡ [] → bytes ≡ []
nil_strays [] e = refl
nil_strays (b ∷ bytes) e = absurd cc

-- segments without an event are one unfinished segment at most
quiet_parts : (parts : List (List ℕ)) → AllByRecursion IsSegment parts → segments_events parts ≡ []
    → unfinished_segment parts ≡ concat parts
quiet_parts [] h e = refl
quiet_parts (g ∷ []) h e = search rules
quiet_parts ([] ∷ k ∷ parts) h e = absurd h.0
quiet_parts ((b ∷ g) ∷ k ∷ parts) h e = search rules

-- if bytes complete no event, they are all held
pub quiet_held : (s : List ℕ) → events s ≡ [] → unfinished_message s ≡ s
unfolding events unfinished_message
quiet_held s e =
    let parts = are_segments s in
    let all = whole s in
    search (rules, nil_strays, nil_left, nil_raised, quiet_parts)
