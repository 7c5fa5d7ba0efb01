-- Exactly the bytes of one message.
use Rattle.{std.{proofs.Common.{rules, ◌≡◌, ◌≤◌, ℕ, List, [], ◌∷◌, length, drop, Some, arith}, specs.Prelude.{slice_index}}, dgt_decode.specs.{Feeding.{IsWholeMessage}, Grammar.{at_place}}}
use Rattle.dgt_decode.{specs.Grammar.{message_event, verdict, unfinished_message}, proofs.{Appending.{IsAlone, IsAlone-from}, SevenBit.{SevenByRecursion, by_recursion}}}
use Rattle.dgt_decode.proofs.{UnfinishedLemmas.{unfinished-alone}, Verdicts.{verdict-full}}

-- a first byte with its top bit set, and later ones without
IsAlone-begin : (bytes : List ℕ) → 3 ≤ length bytes → 128 ≤ slice_index bytes 0
    → SevenByRecursion (drop 1 bytes) → IsAlone bytes
IsAlone-begin [] long top seven = absurd (omega arith)
IsAlone-begin (b ∷ bytes) long top seven = IsAlone-from b bytes top seven

-- they are one segment
pub IsAlone-whole : (g : List ℕ) → IsWholeMessage g → IsAlone g
IsAlone-whole g w = IsAlone-begin g w.long w.first (by_recursion (drop 1 g) w.later)

-- its message ends at its end
pub verdict-of_whole : (g : List ℕ) → IsWholeMessage g
    → verdict g ≡ Some (at_place (length g) (message_event g))
verdict-of_whole g w = verdict-full g w.long w.whole

-- a whole message leaves nothing unfinished
pub whole_unfinished : (g : List ℕ) → IsWholeMessage g → unfinished_message g ≡ []
whole_unfinished g w = search (rules, unfinished-alone, IsAlone-whole, verdict-of_whole)
