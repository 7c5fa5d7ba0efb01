-- The mask of a comparison of codes, bit by bit.
use Rattle.std.proofs.{Common.{◌≡◌, ℕ, ◌%◌, ◌^◌, ◌<◌, ◌∙◌, eqb, Bool, false, not, cond, List, map, length, get_or, sym, ap, arith, w8, eq-eqb, ne_eqb, rules}, lemmas.Nat.{bit_set_by_shift}}
use Rattle.std.{proofs.lemmas.{Option.{slice_get-get_or}, Simd.{tops_compared, mask_l-mod, bit_mask_l, get_or-zip2, length-zip2}, Nat.Bits.{shr_and_one}}, specs.{Int.{bit_at}, Prelude.{◌≢◌, ◌↔◌}}}
use Rattle.{std.specs.Prelude.{IsBitSet, slice_get}, dgt_values.{specs.{Board.{piece_code}, declared.pieces.Piece.{Piece, TheVariants.{Empty}}}, proofs.PieceCodes.{same_code}}}
use lib.Lanes.{mask_l, top, zip2}

-- two lanes differ
abbrev pub unequal : ℕ → ℕ → Bool
unequal a b = not (eqb a b)

-- bit n of the mask is set if lanes n differ
unequal_bits : (xs ys : List ℕ) → length xs ≡ 64 → length ys ≡ 64 → (n : ℕ) → n < 64
    → bit_at (mask_l (map (top 7) (zip2 (λ a b. cond (unequal a b) 255 0) xs ys)) % 2 ^ 64) n
    ≡ cond (unequal (get_or xs n 0) (get_or ys n 0)) 1 0
unequal_bits xs ys xs_long ys_long n within =
    let lanes = zip2 unequal xs ys in
    let masked = ap (λ bits. mask_l bits % 2 ^ 64) (tops_compared w8 unequal xs ys)
    ∙ mask_l-mod lanes 64 (omega (arith, length-zip2 unequal xs ys (xs_long ∙ sym ys_long))) in
    ap (λ mask. bit_at mask n) masked ∙ bit_mask_l lanes n
    ∙ ap (λ b. cond b 1 0) (get_or-zip2 unequal xs ys n 0 0 false (omega arith) (omega arith))

-- a bit that says whether two codes differ is set exactly if the pieces do
code_bit : (a b : Piece) (bit : ℕ) → bit ≡ cond (unequal (piece_code a) (piece_code b)) 1 0
    → (bit ≡ 1) ↔ (a ≢ b)
code_bit a b bit is = search (rules, eq-eqb, ne_eqb, same_code)

-- the piece on a square of the board
square_same : (a b : List Piece) (n : ℕ) → n < length a → n < length b
    → (get_or a n Empty ≢ get_or b n Empty) ↔ (slice_get a n ≢ slice_get b n)
square_same a b n h k = search (rules, slice_get-get_or)

-- the mask of the codes of two positions reports the squares that differ
pub mask_differs : (a b : List Piece) (xs ys : List ℕ) → length a ≡ 64 → length b ≡ 64
    → length xs ≡ 64 → length ys ≡ 64 → (n : ℕ) → n < 64
    → get_or xs n 0 ≡ piece_code (get_or a n Empty) → get_or ys n 0 ≡ piece_code (get_or b n Empty)
    → IsBitSet (mask_l (map (top 7) (zip2 (λ a b. cond (unequal a b) 255 0) xs ys)) % 2 ^ 64) n
    ↔ (slice_get a n ≢ slice_get b n)
mask_differs a b xs ys a_long b_long xs_long ys_long n within own others =
    let mask = mask_l (map (top 7) (zip2 (λ a b. cond (unequal a b) 255 0) xs ys)) % 2 ^ 64 in
    let here =
    unequal_bits xs ys xs_long ys_long n within ∙ ap (λ x. cond (unequal x (get_or ys n 0)) 1 0) own
    ∙ ap (λ y. cond (unequal (piece_code (get_or a n Empty)) y) 1 0) others in
    let bit = code_bit (get_or a n Empty) (get_or b n Empty) (bit_at mask n) here in
    let square = square_same a b n (omega arith) (omega arith) in
    let shift = bit_set_by_shift mask n in (
      λ set. square.0 (bit.0 (sym (shr_and_one mask n) ∙ shift.1 set)),
      λ differs. shift.0 (shr_and_one mask n ∙ bit.1 (square.1 differs)),
    )
