-- Laws of places: raising them, and strays in a row.
use Rattle.{std.proofs.Common.{◌≡◌, ℕ, ◌+◌, List, [], ◌∷◌, ◌++◌, length, refl, sym, zero-add, rules}, dgt_decode.specs.Grammar.{Placed, shifted, strays}}

-- events in two parts after bytes
pub shifted-append : (n : ℕ) (xs ys : List Placed)
    → shifted n (xs ++ ys) ≡ shifted n xs ++ shifted n ys
shifted-append n [] ys = refl
shifted-append n (x ∷ xs) ys = search (rules, shifted-append n xs ys)

-- bytes before bytes
pub shifted-shifted : (m n : ℕ) (xs : List Placed) → shifted m (shifted n xs) ≡ shifted
    (m + n) xs
shifted-shifted m n [] = refl
shifted-shifted m n (x ∷ xs) = search (rules, shifted-shifted m n xs)

-- after no bytes
pub shifted-zero : (xs : List Placed) → shifted 0 xs ≡ xs
shifted-zero [] = refl
shifted-zero (x ∷ xs) = rw (shifted-zero xs, zero-add) refl

-- the Strays of two parts
pub strays-append : (xs ys : List ℕ)
    → strays (xs ++ ys) ≡ strays xs ++ shifted (length xs) (strays ys)
strays-append [] ys = sym (shifted-zero (strays ys))
strays-append (b ∷ xs) ys = search (rules, shifted-append, shifted-shifted, strays-append xs ys)
