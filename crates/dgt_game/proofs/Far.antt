-- How many squares show other pieces.
use Rattle.std.proofs.Common.{rules, arith, ◌≡◌, ◌≢◌, ◌∙◌, ◌%◌, ◌^◌, ◌<◌, ◌≤◌, ◌⊎◌, inl, inr, sym, ap, refl, subst, ℕ}
use Rattle.std.proofs.Common.{zero, suc, Bool, true, false, not, eqb, cond, List, map, length, get_or, eq-eqb, ne_eqb}
use Rattle.std.proofs.lemmas.Nat.{bit_set_by_shift}
use Rattle.std.proofs.lemmas.{Option.{slice_get-get_or}, Simd.{bit_mask_l, mask_l-lt, ones-mask_l}}
use Rattle.std.proofs.lemmas.{Nat.Bits.{bit_at-lt, same_from_bits_below, shr_and_one}, List.{length-map}, Slice.Zip.{get_or-zip, length-zip}}
use Rattle.std.{specs.{Int.{bit_at}, Prelude.{◌↔◌, IsBitSet, Option, Some, count_ones, min, slice_get, zip}}, proofs.Math.ListN.{get_or-map}}
use Rattle.dgt_values.{specs.{Board.{DifferingSquares, piece_code}, declared.pieces.Piece.{Piece}}, proofs.PieceCodes.{same_code}}
use Rattle.dgt_game.specs.Planning.{differing}
use lib.Lanes.{mask_l}

abbrev differ : Piece × Piece → Bool
differ pair = not (eqb (piece_code pair.0) (piece_code pair.1))

-- two bits that are set for the same reason are the same
same_bit : (x y : ℕ) (P : Type 0) → x < 2 → y < 2 → (x ≡ 1) ↔ P → (y ≡ 1) ↔ P → x ≡ y
same_bit zero zero P first second one other = refl
same_bit (suc zero) (suc zero) P first second one other = refl
same_bit zero (suc zero) P first second one other = omega (arith, one.1 (other.0 refl))
same_bit (suc zero) zero P first second one other = omega (arith, other.1 (one.0 refl))
same_bit (suc (suc x)) y P first second one other = omega (arith, first)
same_bit zero (suc (suc y)) P first second one other = omega (arith, second)
same_bit (suc zero) (suc (suc y)) P first second one other = omega (arith, second)

code_bit : (a b : Piece) (bit : ℕ) → bit ≡ cond (differ (a, b)) 1 0 → (bit ≡ 1) ↔ (a ≢ b)
code_bit a b bit is = search (rules, eq-eqb, ne_eqb, same_code)

square_same : (a b : List Piece) (n : ℕ) → n < length a → n < length b
    → (get_or a n Piece.Empty ≢ get_or b n Piece.Empty) ↔ (slice_get a n ≢ slice_get b n)
square_same a b n h k = search (rules, slice_get-get_or)

bit_differs : (a b : List Piece) (n : ℕ) → length a ≡ 64 → length b ≡ 64 → n < 64
    → (bit_at (mask_l (map differ (zip a b))) n ≡ 1) ↔ (slice_get a n ≢ slice_get b n)
bit_differs a b n a_long b_long within =
    let is = bit_mask_l (map differ (zip a b)) n
    ∙ ap (λ b. cond b 1 0) (get_or-map differ (zip a b) n (Piece.Empty, Piece.Empty)
    ∙ ap differ (get_or-zip a b n (Piece.Empty, Piece.Empty) (omega arith) (omega arith))) in
    let bit = code_bit (get_or a n Piece.Empty) (get_or b n Piece.Empty) _ is in
    let square = square_same a b n (omega arith) (omega arith) in
    (λ set. square.0 (bit.0 set), λ differs. bit.1 (square.1 differs))

-- the squares that differ are as many as are counted
pub differing_counted : (a b : List Piece) (bits : ℕ) → length a ≡ 64 → length b ≡ 64
    → bits < 2 ^ 64 → DifferingSquares a b bits → count_ones bits ≡ differing a b
differing_counted a b bits a_long b_long small squares =
    let lanes = map differ (zip a b) in
    let both : length (zip a b) ≡ 64 = omega (arith, length-zip a b) in
    let long : length lanes ≡ 64 = search (rules, length-map, both) in
    let less : mask_l lanes < 2 ^ 64 =
    subst (λ (n : ℕ). mask_l lanes < 2 ^ n) long (mask_l-lt lanes) in
    let same : bits ≡ mask_l lanes = same_from_bits_below 64 bits (mask_l lanes) small less
    (λ n within. let shift = bit_set_by_shift bits n in
    let here = squares n within in
    same_bit (bit_at bits n) (bit_at (mask_l lanes) n) _ (bit_at-lt bits n) (bit_at-lt _ n) (
      λ set. here.0 (shift.0 (shr_and_one bits n ∙ set)),
      λ differs. sym (shr_and_one bits n) ∙ shift.1 (here.1 differs),
    ) (bit_differs a b n a_long b_long within)) in
    ap (λ n. count_ones n) same ∙ ones-mask_l differ (zip a b)
