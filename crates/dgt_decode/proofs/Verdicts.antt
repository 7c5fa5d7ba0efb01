-- The verdict of a segment, by its length and its total.
use Rattle.std.proofs.{Common.{◌⊎◌, ◌≡◌, ℕ, ◌<◌, ◌≤◌, List, ◌++◌, length, take, Some, None, refl, rules}, Math.Seq.{take-length}, lemmas.{Bool.{lt-ltb, le-ltb}, List.{length-append}}}
use Rattle.{std.proofs.lemmas.List.{get_or_append_left, take-append-le}, dgt_decode.specs.Grammar.{BadLength, Placed, at_place, announced_total, message_event, verdict}}

-- the event of a message that is whole
abbrev pub whole_event : List ℕ → Placed
whole_event g = at_place (announced_total g) (message_event (take (announced_total g) g))

-- no header, no verdict
pub verdict-short : (g : List ℕ) → length g < 3 → verdict g ≡ None
unfolding verdict
verdict-short g h = rw (lt-ltb (length g) 3 h) refl

-- a total below the header
pub verdict-bad : (g : List ℕ) → 3 ≤ length g → announced_total g < 3
    → verdict g ≡ Some (at_place 3 BadLength)
unfolding verdict
verdict-bad g long h = rw (le-ltb (length g) 3 long, lt-ltb (announced_total g) 3 h) refl

-- fewer bytes than the total, no verdict
pub verdict-waits : (g : List ℕ) → length g < announced_total g → verdict g ≡ None
unfolding verdict
verdict-waits g h = search rules

-- as many bytes as the total
pub verdict-whole : (g : List ℕ) → 3 ≤ announced_total g → announced_total g ≤ length g
    → verdict g ≡ Some (whole_event g)
unfolding verdict
verdict-whole g large h = search rules

-- exactly as many bytes
pub verdict-full : (g : List ℕ) → 3 ≤ length g → announced_total g ≡ length g
    → verdict g ≡ Some (at_place (length g) (message_event g))
verdict-full g long same = search (rules, take-length, verdict-whole)

-- how much of a segment was received
pub data Stage (g : List ℕ) : Type 0 where
  short : length g < 3 → Stage g
  waits : length g < announced_total g → Stage g
  bad : 3 ≤ length g → announced_total g < 3 → Stage g
  whole : 3 ≤ announced_total g → announced_total g ≤ length g → Stage g

-- each segment was received to such a point
pub stage_of : (g : List ℕ) → Stage g
stage_of g = search rules

-- with no verdict, the header or the message has not come whole
pub verdict-none : (g : List ℕ) → verdict g ≡ None → (length g < 3) ⊎ (length g < announced_total g)
verdict-none g e = search (rules, stage_of, verdict-bad, verdict-whole)

-- the total is known once the header was received
pub announced_total-append : (g p : List ℕ) → 3 ≤ length g
    → announced_total (g ++ p) ≡ announced_total g
announced_total-append g p long = search (rules, get_or_append_left)

-- A verdict holds whatever follows, and its place is within the segment.
pub verdict-append : (g p : List ℕ) (x : Placed) → verdict g ≡ Some x → (verdict (g ++ p) ≡ Some x)
    × (x.place ≤ length g)
verdict-append g p x e = search (
  rules,
  verdict-short,
  verdict-waits,
  verdict-bad,
  length-append,
  announced_total-append,
  verdict-whole,
  take-append-le,
)
