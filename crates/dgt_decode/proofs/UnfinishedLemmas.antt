-- The unfinished rest of a list, and of a single segment.
use Rattle.{std.proofs.Common.{rules, ◌≡◌, ℕ, ◌≤◌, List, [], ◌∷◌, ◌++◌, length, None, refl, arith}, dgt_decode.specs.Grammar.{segments, verdict, segment_events, unfinished_part, unfinished_segment}}
use Rattle.dgt_decode.{specs.Grammar.{events, unfinished_message}, proofs.{Appending.{IsAlone, AreAlone, AreAlone-segments, settled-unfinished, length-cut}, Cuts.{segments_with, segments-append}}}
use Rattle.dgt_decode.proofs.{Places.{shifted-zero}, Verdicts.{verdict-append}}

-- ---- One segment

-- the events of one segment
pub events-alone : (g : List ℕ) → IsAlone g → events g ≡ segment_events (verdict g) g
unfolding events
events-alone g alone = search (rules, shifted-zero)

-- what one segment leaves unfinished
pub unfinished-alone : (g : List ℕ) → IsAlone g
    → unfinished_message g ≡ unfinished_part (verdict g) g
unfolding unfinished_message
unfinished-alone g alone = search rules

-- ---- The unfinished message

-- what is unfinished with more bytes after
unfinished_segment-with : (p : List ℕ) (gs : List (List ℕ)) → AreAlone gs
    → unfinished_segment (segments_with p gs) ≡ unfinished_message
    (unfinished_segment gs ++ p)
unfolding unfinished_message
unfinished_segment-with p [] alone = refl
unfinished_segment-with p (g ∷ []) alone = search (rules, segments-append, verdict-append)
unfinished_segment-with p (g ∷ h ∷ gs) alone =
    search (rules, unfinished_segment-with p (h ∷ gs) alone.1)

-- Of the earlier bytes, only the unfinished ones affect what is unfinished later.
pub unfinished-append : (s p : List ℕ)
    → unfinished_message (s ++ p) ≡ unfinished_message (unfinished_message s ++ p)
unfolding unfinished_message
unfinished-append s p =
    rw (segments-append s p) (unfinished_segment-with p (segments s) (AreAlone-segments s))

-- nothing, or one segment that isn't finished
pub data IsUnfinished : List ℕ → Type 0 where
  nothing : IsUnfinished []
  waiting : (g : List ℕ) → IsAlone g → verdict g ≡ None → IsUnfinished g

-- the unfinished bytes of segments are nothing or one unfinished segment
IsUnfinished-unfinished_segment : (gs : List (List ℕ)) → AreAlone gs
    → IsUnfinished (unfinished_segment gs)
IsUnfinished-unfinished_segment [] alone = nothing
IsUnfinished-unfinished_segment (g ∷ []) alone = search (rules, waiting, nothing)
IsUnfinished-unfinished_segment (g ∷ h ∷ gs) alone =
    IsUnfinished-unfinished_segment (h ∷ gs) alone.1

-- the same of a list
pub IsUnfinished-unfinished : (s : List ℕ) → IsUnfinished (unfinished_message s)
unfolding unfinished_message
IsUnfinished-unfinished s = IsUnfinished-unfinished_segment (segments s) (AreAlone-segments s)

-- unfinished bytes leave themselves unfinished
pub unfinished-of_unfinished : (h : List ℕ) → IsUnfinished h → unfinished_message h ≡ h
unfolding unfinished_message
unfinished-of_unfinished h nothing = refl
unfinished-of_unfinished h (waiting g alone e) = rw (alone.one, e) refl

-- unfinished bytes complete no event
pub events-of_unfinished : (h : List ℕ) → IsUnfinished h → events h ≡ []
unfolding events
events-of_unfinished h nothing = refl
events-of_unfinished h (waiting g alone e) = rw (alone.no_lead, alone.one, e) refl

-- the unfinished bytes are no longer than the list
pub length-unfinished : (s : List ℕ) → length (unfinished_message s) ≤ length s
unfolding unfinished_message
length-unfinished s = omega (arith, settled-unfinished (segments s), length-cut s)
