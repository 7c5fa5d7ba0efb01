-- Decimal digits, from the last one to the first.
use Rattle.std.proofs.Common.{◌≡◌, ℕ, zero, suc, ◌+◌, ◌-◌, ◌*◌, ◌/◌, ◌%◌, ◌^◌, ◌<◌, Bool, true, ◌&&◌, T, eqb, eqb→eq, eq-zero-or-pos, get_or, List, [], ◌∷◌, ◌++◌, refl, sym, ◌∙◌, arith, replicate}
use Rattle.std.proofs.{Common.{append_assoc, length-append, ◌⊎◌, inl, inr, w64, rules}, Math.Nat.{div-div-eq-div-mul, pow-suc}, lemmas.{Fmt.{decimal_digit, decimal_step}}}
use Rattle.{std.{proofs.lemmas.{Grind.{common_steps}, List.{replicate_more}}, specs.Int.{to_le_bytes}}, dgt_lines.specs.{Lines.{padded_decimal}, declared.lines.TheConstants.{PAIRS}}}
use lib.Ieee.Fits.{and_l, and_r}

-- the digits of a number, of which 0 has none, with leading zeros to at least this many
abbrev pub prefix : ℕ → ℕ → List ℕ
prefix width zero = replicate width 48
prefix width (suc n) = padded_decimal width (suc n)

-- one digit less
pub prefix-last : (width n : ℕ) → n < 2 ^ 64 → (0 < n) ⊎ (0 < width)
    → prefix width n ≡ prefix (width - 1) (n / 10) ++ (48 + n % 10) ∷ []
prefix-last width zero h k = search (rules, replicate_more)
prefix-last width (suc n) h k =
    search (rules, decimal_digit, decimal_step, length-append, append_assoc)

-- all digits, if there is at least one
pub prefix-all : (width n : ℕ) → 0 < width → prefix width n ≡ padded_decimal width n
prefix-all width n h = grind (arith, common_steps, decimal_digit)

-- without its last digit a number is below a smaller power of ten
tenth : (n k : ℕ) → n < 10 ^ suc k → n / 10 < 10 ^ k
tenth n k h = let e : 10 ^ suc k ≡ 10 ^ k * 10 = pow-suc 10 k in omega arith

-- this many last digits
abbrev pub last_digits : ℕ → ℕ → List ℕ
last_digits zero n = []
last_digits (suc k) n = last_digits k (n / 10) ++ (48 + n % 10) ∷ []

prefix-last_digits : (k n : ℕ) → n < 10 ^ k → n < 2 ^ 64 → prefix k n ≡ last_digits k n
prefix-last_digits zero n h b = let none : n ≡ 0 = omega arith in rw none refl
prefix-last_digits (suc k) n h b =
    search (rules, prefix-last, tenth, prefix-last_digits k (n / 10) (tenth n k h) (omega arith))

-- eight digits
padded_eight : (n : ℕ) → n < 100000000 → padded_decimal 8 n
    ≡ (48 + n / 10000000 % 10) ∷ (48 + n / 1000000 % 10) ∷ (48 + n / 100000 % 10)
    ∷ (48 + n / 10000 % 10) ∷ (48 + n / 1000 % 10) ∷ (48 + n / 100 % 10) ∷ (48 + n / 10 % 10)
    ∷ (48 + n % 10) ∷ []
padded_eight n h = sym (prefix-all 8 n (omega arith)) ∙ prefix-last_digits 8 n h
    (omega arith) ∙ simp div-div-eq-div-mul refl

-- eight digits, from four pairs
pub padded_pairs : (n : ℕ) → n < 100000000 → padded_decimal 8 n
    ≡ (48 + n / 10000 / 100 / 10) ∷ (48 + n / 10000 / 100 % 10) ∷ (48 + n / 10000 % 100 / 10)
    ∷ (48 + n / 10000 % 100 % 10) ∷ (48 + n % 10000 / 100 / 10) ∷ (48 + n % 10000 / 100 % 10)
    ∷ (48 + n % 10000 % 100 / 10) ∷ (48 + n % 10000 % 100 % 10) ∷ []
padded_pairs n small = search (rules, padded_eight)

-- two digits as one number, the tens in its low byte
abbrev pub pair : ℕ → ℕ
pair n = 48 + n / 10 + 256 * (48 + n % 10)

abbrev are_pairs : ℕ → Bool
are_pairs zero = true
are_pairs (suc n) = eqb (get_or PAIRS n 0) (pair n) && are_pairs n

pair_below : (k n : ℕ) → T (are_pairs k) → n < k → get_or PAIRS n 0 ≡ pair n
pair_below zero n t h = absurd (omega arith)
pair_below (suc k) n t h = elim (eq-zero-or-pos (k - n)) [
  | inl z ↦ let e : n ≡ k = omega arith in rw e (eqb→eq _ _ (and_l _ (are_pairs k) t))
  | inr g ↦ pair_below k n (and_r _ (are_pairs k) t) (omega arith)
]

-- the table of pairs
pub pair_at : (n : ℕ) → n < 100 → get_or PAIRS n 0 ≡ pair n
pair_at n h = pair_below 100 n tt h

-- eight digits, from four pairs in a word
pub padded_word : (n word : ℕ) → n < 100000000
    → word ≡ (pair (n / 10000 / 100) + 65536 * pair (n / 10000 % 100))
    + 4294967296 * (pair (n % 10000 / 100) + 65536 * pair (n % 10000 % 100))
    → to_le_bytes w64 word ≡ padded_decimal 8 n
padded_word n word small is = search (rules, padded_pairs)

-- the same if there is a digit
pub tenth_below : (n k : ℕ) → n < 10 ^ k → 0 < k → n / 10 < 10 ^ (k - 1)
tenth_below n k h p = search (rules, tenth)

-- a number below 1 is none that has digits
pub none_below : (n k : ℕ) → n < 10 ^ k → 0 < n → 0 < k
none_below n k h p = search rules
