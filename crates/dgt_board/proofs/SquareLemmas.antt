-- The squares that differ from what was reported, and the first of them.
use Rattle.std.proofs.{Common.{arith, ◌≡◌, refl, ap, sym, ◌∙◌, ◌^◌, ℕ, zero, suc, ◌+◌, ◌<◌, [], Some, None, Bool, true, false, not, add-zero, zero-add, rules}, lemmas.Bool.{ne_eqb}}
use Rattle.std.{proofs.lemmas.{Grind.{common_steps}, Nat.{bit_set_by_shift, Bits.{bit_at-trailing_zeros, bit_at-zero, shr_and_one}}, Option.{slice_get-get_or}}, specs.Int.{bit_at}}
use Rattle.{std.specs.{Int.{trailing_zeros, w64}, List.{range_with_len}, Prelude.{filter, length, slice_get}}, dgt_values.specs.Board.{DifferingSquares}}
use Rattle.{dgt_values.{specs.declared.pieces.Piece.{Piece}, proofs.PieceCodes.{same_code}}, dgt_board.specs.{Sending.{differs, every_square}, State.{BoardState}}}

-- nothing of a range passes a test that fails along it
none_passes : (test : ℕ → Bool) (a n : ℕ) → ((k : ℕ) → k < n → test (a + k) ≡ false)
    → filter test (range_with_len a n) ≡ []
none_passes test a zero h = refl
none_passes test a (suc n) h =
    let here : test a ≡ false = rw (← add-zero a) (h 0 (omega arith)) in
    rw here (none_passes test (a + 1) n
    (λ k l. let next : a + 1 + k ≡ a + suc k = omega arith in rw next (h (suc k) (omega arith))))

-- the first place at which a test holds is the first of those that pass
first_passes : (test : ℕ → Bool) (a n k : ℕ) → k < n → ((j : ℕ) → j < k → test (a + j) ≡ false)
    → test (a + k) ≡ true → slice_get (filter test (range_with_len a n)) 0 ≡ Some (a + k)
first_passes test a zero k within before holds = absurd (omega arith)
first_passes test a (suc n) zero within before holds = search (rules, add-zero)
first_passes test a (suc n) (suc k) within before holds =
    let here : test a ≡ false = rw (← add-zero a) (before 0 (omega arith)) in
    let next : (j : ℕ) → a + 1 + j ≡ a + suc j = λ j. omega arith in
    rw (here, ← next k)
    (first_passes test (a + 1) n k (omega arith) (λ j l. rw (next j) (before (suc j) (omega arith)))
    (rw (next k) holds))

-- if no square passes, there isn't a first
no_square : (test : ℕ → Bool) → ((k : ℕ) → k < 64 → test k ≡ false)
    → slice_get (filter test every_square) 0 ≡ None
unfolding every_square
no_square test h = rw (none_passes test 0 64 (λ k l. rw (zero-add k) (h k l))) refl

-- the first square that passes is the first of those
first_square : (test : ℕ → Bool) (at : ℕ) → at < 64 → ((k : ℕ) → k < at → test k ≡ false)
    → test at ≡ true → slice_get (filter test every_square) 0 ≡ Some at
unfolding every_square
first_square test at within before holds =
    rw (← zero-add at)
    (first_passes test 0 64 at within (λ k l. rw (zero-add k) (before k l))
    (rw (zero-add at) holds))

-- ---- a mask of the squares that differ

module _ (board : BoardState) (mask : ℕ) (reported_all : length board.reported_squares ≡ 64)
    (all : length board.squares ≡ 64)
    (reports : DifferingSquares board.reported_squares board.squares mask) where
  -- a square with its bit set differs
  set_differs : (k : ℕ) → k < 64 → bit_at mask k ≡ 1 → differs board k ≡ true
  set_differs k within set =
      let reported = slice_get-get_or board.reported_squares k Piece.Empty (omega arith) in
      let shown = slice_get-get_or board.squares k Piece.Empty (omega arith) in
      let apart = (reports k within).0 ((bit_set_by_shift mask k).0 (shr_and_one mask k ∙ set)) in
      ap not (ne_eqb _ _ (λ codes. apart (reported ∙ ap Some (same_code _ _ codes) ∙ sym shown)))

  -- a square with its bit clear doesn't differ
  clear_same : (k : ℕ) → k < 64 → bit_at mask k ≡ 0 → differs board k ≡ false
  clear_same k within clear = grind (
    arith,
    common_steps,
    reports k within,
    bit_set_by_shift mask k,
    shr_and_one mask k,
    slice_get-get_or board.reported_squares k Piece.Empty,
    slice_get-get_or board.squares k Piece.Empty,
  )

  -- with no bit set, no square differs
  pub none_differs : mask ≡ 0 → slice_get (filter (differs board) every_square) 0 ≡ None
  none_differs none =
      no_square (differs board)
      (λ k within. clear_same k within (ap (λ m. bit_at m k) none ∙ bit_at-zero k))

  -- the lowest bit is that of the first square that differs
  pub lowest_differs : 0 < mask → mask < 2 ^ 64
      → slice_get (filter (differs board) every_square) 0 ≡ Some (trailing_zeros w64 mask)
  lowest_differs some fits =
      let lowest = bit_at-trailing_zeros w64 mask some fits in
      let at = trailing_zeros w64 mask in
      first_square (differs board) at lowest.0
      (λ k below. clear_same k (omega (arith, lowest.0)) (lowest.2 k below))
      (set_differs at lowest.0 lowest.1)
