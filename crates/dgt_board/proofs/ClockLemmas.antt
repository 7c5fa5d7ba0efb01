-- The derived `==` of a clock is true if two clocks show the same.
use Rattle.std.{proofs.{Common.{arith, ◌≡◌, refl, ap, List, [], ◌∷◌, Bool, ◌&&◌, ◌==◌, map, Option, Some, None, option_map}, lemmas.Grind.{common_steps}}, specs.Option.{option_eq}}
use Rattle.{dgt_values.specs.Bytes.{number}, dgt_message.specs.{Clock.{clock_eq}, Content.{clock_seen}, declared.clock.Clock.{Clock}}, dgt_board.specs.State.{is_reported}}
use lib.Pointwise.{pointwise}
use Rattle.dgt_message.specs.declared.clock.Clock.TheVariants as clock
use Rattle.dgt_message.specs.contracts.clock.ClockPartialEq.TheImpl as derived

-- testing elements by their readings is testing the readings
pointwise-map : {A B : Type 0} (f : A → B) (test : B → B → Bool) (xs ys : List A)
    → pointwise (λ x y. test (f x) (f y)) xs ys ≡ pointwise test (map f xs) (map f ys)
pointwise-map f test [] [] = refl
pointwise-map f test [] (y ∷ ys) = refl
pointwise-map f test (x ∷ xs) [] = refl
pointwise-map f test (x ∷ xs) (y ∷ ys) =
    ap (λ rest. test (f x) (f y) && rest) (pointwise-map f test xs ys)

-- the result of `==` for two clocks
pub eq-clock_eq : (a b : Clock) → (derived.eq-value).it a b ≡ clock_eq (clock_seen a) (clock_seen b)
eq-clock_eq (clock.Times a) (clock.Times b) = grind (arith, common_steps)
eq-clock_eq (clock.NoClock a) (clock.NoClock b) =
    ap (λ same. same && a.status.code.value == b.status.code.value)
    (pointwise-map number (λ x y. x == y) a.raw b.raw)
eq-clock_eq _ _ = refl

-- the result of `==` for a clock that was reported, or none, and a clock
pub option_eq-is_reported : (reported : Option Clock) (shown : Clock)
    → option_eq (derived.eq-value).it reported (Some shown)
    ≡ is_reported (option_map clock_seen reported) (clock_seen shown)
option_eq-is_reported None shown = refl
option_eq-is_reported (Some reported) shown = eq-clock_eq reported shown
