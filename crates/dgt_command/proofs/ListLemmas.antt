-- A list and the members at its places.
use Rattle.std.proofs.Common.{◌≡◌, ℕ, zero, suc, List, [], ◌∷◌, length, get_or, refl, sym, ◌∙◌, ap, arith}

-- the members at the next places, from this one on
abbrev pub at_places : ℕ → ℕ → List ℕ → List ℕ
at_places from zero xs = []
at_places from (suc count) xs = get_or xs from 0 ∷ at_places (suc from) count xs

-- each is one place later in a list with one more member before them
one_later : (from count a : ℕ) (xs : List ℕ)
    → at_places (suc from) count (a ∷ xs) ≡ at_places from count xs
one_later from zero a xs = refl
one_later from (suc count) a xs = ap (λ l. get_or xs from 0 ∷ l) (one_later (suc from) count a xs)

-- a list has the members at its places
pub members : (count : ℕ) (xs : List ℕ) → length xs ≡ count → xs ≡ at_places 0 count xs
members zero [] h = refl
members zero (a ∷ xs) h = absurd (omega (arith, h))
members (suc count) [] h = absurd (omega (arith, h))
members (suc count) (a ∷ xs) h =
    ap (λ l. a ∷ l) (members count xs (omega (arith, h)) ∙ sym (one_later 0 count a xs))
