-- The first element that passes a test, found this many at a time.
use Rattle.std.proofs.{Common.{◌≡◌, ℕ, ◌+◌, ◌%◌, ◌^◌, ◌<◌, ◌≤◌, Bool, not, cond, eqb, zero, suc, List, ◌∷◌, map, length, drop, replicate, ap, ◌∙◌, arith, w8, rules}}
use Rattle.std.proofs.lemmas.{List.{length-drop, length-map, take_all}, Simd.{chunk-drop, length-chunk, tops_compared, zip2_splat_left, mask_l-mod}, List.Folds.{prefix_len-append}}
use Rattle.std.specs.{List.{position_or_len}, Simd.Lanes.{chunk, mask_l, top, zip2}}

-- the mask of a comparison with a splat on its left side
pub splat_mask : (test : ℕ → ℕ → Bool) (y n : ℕ) (lanes : List ℕ) → length lanes ≡ n → n ≤ 64
    → mask_l (map (top 7) (zip2 (λ a b. cond (test a b) 255 0) (replicate n y) lanes)) % 2 ^ 64
    ≡ mask_l (map (test y) lanes)
splat_mask test y n lanes long few = ap (λ bits. mask_l bits % 2 ^ 64)
    (tops_compared w8 test (replicate n y) lanes ∙ zip2_splat_left test y n lanes long)
    ∙ mask_l-mod (map (test y) lanes) 64 (omega (arith, length-map lanes (test y)))

-- the next n places from one on
module _ (test : ℕ → Bool) (xs : List ℕ) (at n : ℕ) (room : at + n ≤ length xs) where
  -- the search among them, and then after them
  joined : position_or_len test (drop at xs)
      ≡ cond (eqb (position_or_len test (chunk at n xs)) (length (chunk at n xs)))
      (length (chunk at n xs) + position_or_len test (drop (at + n) xs))
      (position_or_len test (chunk at n xs))
  joined = ap (position_or_len test) (chunk-drop at n xs)
      ∙ prefix_len-append (λ x. not (test x)) (chunk at n xs) (drop (at + n) xs)

  -- the first is among the next n
  pub first_within : position_or_len test (chunk at n xs) < n
      → position_or_len test (drop at xs) ≡ position_or_len test (chunk at n xs)
  first_within short = search (rules, joined, length-chunk)

  -- the first is past the next n
  pub first_past : position_or_len test (chunk at n xs) ≡ n
      → position_or_len test (drop at xs) ≡ n + position_or_len test (drop (at + n) xs)
  first_past whole = search (rules, joined, length-chunk)

-- The search may start again at a place before the one that it has reached.
pub passed_before : (test : ℕ → Bool) (xs : List ℕ) (at from : ℕ) → from ≤ at → at ≤ length xs
    → at + position_or_len test (drop at xs) ≡ position_or_len test xs
    → from + position_or_len test (drop from xs) ≡ position_or_len test xs
passed_before test xs at zero before within passed = omega arith
passed_before test (x ∷ xs) (suc at) (suc from) before within passed =
    search (rules, passed_before test xs)
passed_before test _ _ _ before within passed = absurd (omega (arith, before, within))

-- the search among the last n is the search from there on
pub first_in_last : (test : ℕ → Bool) (xs : List ℕ) (at n : ℕ) → at + n ≡ length xs
    → position_or_len test (drop at xs) ≡ position_or_len test (chunk at n xs)
first_in_last test xs at n last = search (rules, take_all, length-drop)
