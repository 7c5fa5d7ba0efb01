-- A byte with a set top bit starts over, whatever was received before.
use Rattle.{std.proofs.{Common.{rules, ◌≡◌, ℕ, ◌+◌, ◌-◌, ◌≤◌, List, ◌∷◌, ◌++◌, length, true, sym, arith}, lemmas.Bool.{le-leb}}, dgt_decode.specs.Grammar.{shifted, has_top_bit, cut_of, events}}
use Rattle.dgt_decode.{specs.{Grammar.{unfinished_message}, Laws.{BeginsAnew}}, proofs.{Appending.{events-append}, Cuts.{segments-append}, Places.{shifted-shifted, shifted-zero}}}
use Rattle.dgt_decode.proofs.UnfinishedLemmas.{IsUnfinished, nothing, waiting, IsUnfinished-unfinished, length-unfinished, unfinished-append}

has_top : (b : ℕ) → 128 ≤ b → has_top_bit b ≡ true
has_top b top = le-leb 128 b top

-- after one segment with no verdict
pub shifted_unfinished : (o : List ℕ) → IsUnfinished o → (b : ℕ) (p : List ℕ) → 128 ≤ b
    → events (o ++ b ∷ p) ≡ shifted (length o) (cut_of o ++ events (b ∷ p))
unfolding events
shifted_unfinished o nothing b p top = sym (shifted-zero (events (b ∷ p)))
shifted_unfinished o (waiting g alone e) b p top = search (rules, segments-append, shifted-zero)

pub unfinished_behind_unfinished : (o : List ℕ) → IsUnfinished o → (b : ℕ) (p : List ℕ) → 128 ≤ b
    → unfinished_message (o ++ b ∷ p) ≡ unfinished_message (b ∷ p)
unfolding unfinished_message
unfinished_behind_unfinished o u b p top = search (rules, segments-append, has_top)

pub begins_anew : BeginsAnew
begins_anew s p b top =
    let o = unfinished_message s in
    let here : length s - length o + length o ≡ length s = omega (arith, length-unfinished s) in
    let cuts = shifted_unfinished o (IsUnfinished-unfinished s) b p top in
    let rest = unfinished_behind_unfinished o (IsUnfinished-unfinished s) b p top in
    search (rules, events-append, unfinished-append, shifted-shifted)
