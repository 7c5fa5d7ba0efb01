-- Texts in which no two digits are adjacent.
use Rattle.{std.{proofs.Common.{◌≡◌, ℕ, zero, suc, ◌+◌, arith, List, [], ◌∷◌, ◌++◌, rules}, specs.Char.{IsAsciiDigit}}, dgt_values.specs.Placement.{DigitsApart}}

abbrev pub BeginsWithDigit : List ℕ → Type 0
BeginsWithDigit [] = ⊥
BeginsWithDigit (byte ∷ bytes) = IsAsciiDigit byte

-- the same, byte by byte
abbrev pub Apart : List ℕ → Type 0
Apart [] = Unit {0}
Apart (byte ∷ bytes) = (IsAsciiDigit byte → BeginsWithDigit bytes → ⊥) × Apart bytes

-- both forms say the same
pub apart_digits : (text : List ℕ) → Apart text → DigitsApart text
apart_digits [] h k a b = omega (arith, a.0)
apart_digits (byte ∷ bytes) h zero a b = h.0 a (search rules)
apart_digits (byte ∷ bytes) h (suc k) a b =
    let further : suc k + 1 ≡ suc (k + 1) = omega arith in
    apart_digits bytes h.1 k a (rw further at b)

-- the converse
pub digits_apart : (text : List ℕ) → DigitsApart text → Apart text
digits_apart [] h = tt
digits_apart (byte ∷ bytes) h = (
  λ a b. h 0 a (search rules),
  digits_apart bytes
      (λ k a b. let further : suc k + 1 ≡ suc (k + 1) = omega arith in h (suc k) a (rw further b)),
)

-- a byte that isn't a digit keeps its neighbours apart
pub apart_around : (before : List ℕ) (byte : ℕ) (after : List ℕ) → Apart before
    → (IsAsciiDigit byte → ⊥) → Apart after → Apart (before ++ byte ∷ after)
apart_around [] byte after h other k = (λ a b. other a, k)
apart_around (first ∷ []) byte after h other k = (λ a b. other b, (λ a b. other a, k))
apart_around (first ∷ second ∷ before) byte after h other k =
    (h.0, apart_around (second ∷ before) byte after h.1 other k)

-- the beginning of a text with digits apart
pub apart_before : (before after : List ℕ) → Apart (before ++ after) → Apart before
apart_before [] after h = tt
apart_before (byte ∷ []) after h = (λ a b. b, tt)
apart_before (byte ∷ next ∷ before) after h = (h.0, apart_before (next ∷ before) after h.1)

-- the end of a text with digits apart
pub apart_after : (before after : List ℕ) → Apart (before ++ after) → Apart after
apart_after [] after h = h
apart_after (byte ∷ before) after h = apart_after before after h.1
