-- The events of a list with more bytes at its end.
use Rattle.std.proofs.{Common.{◌≡◌, ℕ, ◌+◌, ◌-◌, ◌≤◌, List, [], ◌∷◌, ◌++◌, length, Option, Some, None, refl, append_assoc, arith, rules}, lemmas.{Bool.{lt-leb, leb-true}, List.{length-append}}}
use Rattle.{std.proofs.lemmas.List.{drop-append-le, length-drop}, dgt_decode.specs.Grammar.{Placed, shifted, strays, lead, segments, verdict, unfinished_part, segments_events, unfinished_segment}}
use Rattle.dgt_decode.{specs.Grammar.{events, unfinished_message}, proofs.{Cuts.{lead_with, segments_with, lead-append, segments-append}, Places.{shifted-append, shifted-shifted, shifted-zero}}}
use Rattle.dgt_decode.proofs.{Places.{strays-append}, SevenBit.{SevenByRecursion}, Verdicts.{verdict-append}}

-- a list that is one segment
pub record IsAlone (g : List ℕ) : Type 0 where
  pub no_lead : lead g ≡ []
  pub one : segments g ≡ g ∷ []

-- each is one segment
abbrev pub AreAlone : List (List ℕ) → Type 0
AreAlone [] = Unit {0}
AreAlone (g ∷ gs) = IsAlone g × AreAlone gs

-- seven-bit bytes are all lead
pub lead-seven : (bytes : List ℕ) → SevenByRecursion bytes → lead bytes ≡ bytes
lead-seven [] h = refl
lead-seven (b ∷ bytes) h = rw (lt-leb 128 b h.0, lead-seven bytes h.1) refl

-- seven-bit bytes are not a segment
pub segments-seven : (bytes : List ℕ) → SevenByRecursion bytes → segments bytes ≡ []
segments-seven [] h = refl
segments-seven (b ∷ bytes) h = rw (lt-leb 128 b h.0) (segments-seven bytes h.1)

-- the lead is seven-bit
pub lead-is_seven : (bytes : List ℕ) → SevenByRecursion (lead bytes)
lead-is_seven [] = tt
lead-is_seven (b ∷ bytes) = search (rules, lead-is_seven bytes)

-- a byte with a set top bit and seven-bit bytes are one segment
pub IsAlone-from : (b : ℕ) (bytes : List ℕ) → 128 ≤ b → SevenByRecursion bytes → IsAlone (b ∷ bytes)
IsAlone-from b bytes top seven = search (rules, lead-seven, segments-seven)

-- the segments of a list are one segment each
pub AreAlone-segments : (bytes : List ℕ) → AreAlone (segments bytes)
AreAlone-segments [] = tt
AreAlone-segments (b ∷ bytes) =
    search (rules, IsAlone-from, leb-true, lead-is_seven, AreAlone-segments bytes)

-- ---- how many bytes of segments precede the unfinished ones

-- by the verdict of the last segment: all of it, or none
abbrev pub settled_by : Option Placed → List ℕ → ℕ
settled_by None g = 0
settled_by (Some x) g = length g

-- the segments before the last, and what is settled of the last
abbrev pub settled_of : List (List ℕ) → ℕ
settled_of [] = 0
settled_of (g ∷ []) = settled_by (verdict g) g
settled_of (g ∷ h ∷ gs) = length g + settled_of (h ∷ gs)

-- how many bytes segments have
abbrev pub lengths : List (List ℕ) → ℕ
lengths [] = 0
lengths (g ∷ gs) = length g + lengths gs

-- segments are what is settled and what is unfinished
pub settled-unfinished : (gs : List (List ℕ))
    → settled_of gs + length (unfinished_segment gs) ≡ lengths gs
settled-unfinished [] = refl
settled-unfinished (g ∷ []) = search rules
settled-unfinished (g ∷ h ∷ gs) = omega (arith, settled-unfinished (h ∷ gs))

-- a list is its lead and its segments
pub length-cut : (s : List ℕ) → length s ≡ length (lead s) + lengths (segments s)
length-cut [] = refl
length-cut (b ∷ s) = search (rules, length-cut s)

-- ---- the last segment

-- places after a message, and after its segment
regroup : (place d n l : ℕ) (a b e : List Placed) → place + d ≡ n
    → shifted place (a ++ shifted d b) ++ shifted (n + l) e ≡ shifted place a ++ shifted
    n (b ++ shifted l e)
regroup place d n l a b e same = search (rules, shifted-append, shifted-shifted, append_assoc)

-- more bytes after a last segment that is finished
last-finished : (g p : List ℕ) (x : Placed) → verdict g ≡ Some x
    → segments_events ((g ++ lead p) ∷ segments p)
    ≡ segments_events (g ∷ []) ++ shifted (length g) (events p)
unfolding events
last-finished g p x e = search (
  rules,
  verdict-append,
  length-drop,
  drop-append-le,
  strays-append,
  length-append,
  regroup,
)

-- more bytes after a last segment that is unfinished
last-unfinished : (g p : List ℕ) → IsAlone g → verdict g ≡ None
    → segments_events ((g ++ lead p) ∷ segments p)
    ≡ segments_events (g ∷ []) ++ shifted 0 (events (g ++ p))
unfolding events
last-unfinished g p alone e =
    rw (lead-append g p, segments-append g p, alone.no_lead, alone.one, e) (simp shifted-zero)

-- more bytes after segments
pub segments_events-with : (p g : List ℕ) (gs : List (List ℕ)) → AreAlone (g ∷ gs)
    → segments_events (segments_with p (g ∷ gs)) ≡ segments_events (g ∷ gs)
    ++ shifted (settled_of (g ∷ gs)) (events (unfinished_segment (g ∷ gs) ++ p))
segments_events-with p g [] alone = go (verdict g) refl
  where
    go : (v : Option Placed) → verdict g ≡ v
        → segments_events ((g ++ lead p) ∷ segments p)
        ≡ segments_events (g ∷ []) ++ shifted (settled_by v g) (events (unfinished_part v g ++ p))
    go None e = last-unfinished g p alone.0 e
    go (Some x) e = last-finished g p x e
segments_events-with p g (h ∷ gs) alone =
    let more = segments_events-with p h gs alone.1 in
    search (rules, shifted-append, shifted-shifted, append_assoc)

-- the events of a list by its cut
abbrev events_by_cut : List ℕ → List (List ℕ) → List Placed
events_by_cut prefix gs = strays prefix ++ shifted (length prefix) (segments_events gs)

-- more bytes after a lead and segments
events_by_cut-with : (p prefix : List ℕ) (gs : List (List ℕ)) → AreAlone gs
    → events_by_cut (lead_with p prefix gs) (segments_with p gs) ≡ events_by_cut prefix gs
    ++ shifted (length prefix + settled_of gs) (events (unfinished_segment gs ++ p))
unfolding events
events_by_cut-with p prefix [] alone =
    search (rules, strays-append, length-append, shifted-append, shifted-shifted, append_assoc)
events_by_cut-with p prefix (g ∷ gs) alone =
    search (rules, segments_events-with, shifted-append, shifted-shifted, append_assoc)

-- how many bytes precede the unfinished message
pub settled : (s : List ℕ)
    → length s - length (unfinished_message s) ≡ length (lead s) + settled_of (segments s)
unfolding unfinished_message
settled s = omega (arith, settled-unfinished (segments s), length-cut s)

-- more bytes after a list, with the place by its cut
events-append_by_cut : (s p : List ℕ) → events (s ++ p) ≡ events s ++ shifted
    (length (lead s) + settled_of (segments s)) (events (unfinished_message s ++ p))
unfolding events unfinished_message
events-append_by_cut s p =
    rw (lead-append s p, segments-append s p)
    (events_by_cut-with p (lead s) (segments s) (AreAlone-segments s))

-- Later bytes change no event, and of the earlier ones need only the unfinished bytes.
pub events-append : (s p : List ℕ) → events (s ++ p) ≡ events s
    ++ shifted (length s - length (unfinished_message s))
    (events (unfinished_message s ++ p))
events-append s p = rw (settled s) (events-append_by_cut s p)
