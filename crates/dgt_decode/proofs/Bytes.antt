-- The bytes held between two chunks.
use Rattle.{std.proofs.{Common.{inl, inr, ◌≡◌, ℕ, ◌<◌, ◌≤◌, List, [], ◌∷◌, ◌++◌, length, get_or, refl, arith, rules}, lemmas.Grind.{common_steps}}, dgt_decode.proofs.Verdicts.{verdict-none}}
use Rattle.dgt_decode.{specs.Grammar.{events, announced_total, unfinished_message}, proofs.{Appending.{IsAlone, lead-is_seven}, SevenBit.{SevenByRecursion}, Steps.{IsHeld, IsHeld-unfinished}}}
use Rattle.dgt_decode.proofs.{Steps.{alone_held}, UnfinishedLemmas.{IsUnfinished-unfinished, events-of_unfinished}}

-- no bytes are held unchanged
pub nothing_held : IsHeld []
unfolding unfinished_message
nothing_held = refl

-- no bytes leave nothing unfinished
pub unfinished-nothing : (kept : List ℕ) → kept ≡ [] → unfinished_message kept ≡ []
unfinished-nothing kept none = rw none nothing_held

-- unfinished bytes have completed no event
pub quiet_unfinished : (s : List ℕ) → events (unfinished_message s ++ []) ≡ []
quiet_unfinished s = search (rules, events-of_unfinished, IsUnfinished-unfinished)

-- ---- the bytes held begin a message, and leave room for one more byte

-- each of seven-bit bytes, and the zero after their end, is below 128
seven-get : (bytes : List ℕ) (i : ℕ) → SevenByRecursion bytes → get_or bytes i 0 < 128
seven-get bytes i h = grind (arith, common_steps)

-- one segment begins with a set top bit, and continues seven-bit
pub IsAlone-parts : (b : ℕ) (bytes : List ℕ) → IsAlone (b ∷ bytes)
    → (128 ≤ b) × SevenByRecursion bytes
IsAlone-parts b bytes alone = search (rules, lead-is_seven)

-- no header that is held contains more than the longest total
pub held_total : (held : List ℕ) → IsHeld held → 0 < length held → announced_total held ≤ 16383
held_total [] h some = absurd (omega arith)
held_total (b ∷ held) h some =
    let seven = (IsAlone-parts b held (alone_held (b ∷ held) h some).0).1 in
    omega (arith, seven-get held 0 seven, seven-get held 1 seven)

-- the bytes held are shorter than the longest total
pub held_room : (held : List ℕ) → IsHeld held → length held < 16383
held_room [] h = omega arith
held_room (b ∷ held) h =
    let some : 0 < length (b ∷ held) = omega arith in
    elim (verdict-none (b ∷ held) (alone_held (b ∷ held) h some).1) [
      | inl few ↦ omega arith
      | inr less ↦ omega (arith, less, held_total (b ∷ held) h some)
    ]

-- An unfinished message is shorter than the longest total.
pub unfinished_is_short : (s : List ℕ) → length (unfinished_message s) < 16383
unfinished_is_short s = held_room (unfinished_message s) (IsHeld-unfinished s)

-- the unfinished bytes of a reader without bytes, and how many there are of any reader
pub ruleset unfinished_facts = (unfinished-nothing, unfinished_is_short)
