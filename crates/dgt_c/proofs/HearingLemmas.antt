-- How a listener changes by the one event that is heard, if there is one.
use Rattle.{std.{proofs.Common.{Option, Some, None, ℕ, rules}, specs.List.{FoldsTo}}, dgt_decode.specs.{Feeding.{at_place_if_any}, Grammar.{Event, Placed, at_place}}}

pub heard_at_most_once : {A : Type 0} (Hears : A → Placed → A → Type 0)
    (Holds : Option Event → A → Type 0) (place : ℕ) (event : Option Event) (old new : A)
    → FoldsTo Hears old (at_place_if_any place event) new → Holds None old
    → ((said : Event) (mid : A) → Hears old (at_place place said) mid → Holds (Some said) mid)
    → Holds event new
heard_at_most_once Hears Holds place event old new folds nothing one = search rules
