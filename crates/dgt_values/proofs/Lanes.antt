-- Bytes that are looked at and copied 128 at a time, as lanes.
use Rattle.std.proofs.{Common.{◌≡◌, ℕ, ◌+◌, ◌-◌, ◌%◌, ◌^◌, ◌<◌, ◌≤◌, cond, leb, List, ◌++◌, map, length, replicate, take, get_or, sym, ap, ◌∙◌, append_assoc, arith, w8, rules}, Math.Seq.{take-add}}
use Rattle.std.proofs.lemmas.{Bool.{leb-false}, List.{append-nil, length-map, take_all}, Simd.{length-chunk, length-put_chunk, mask_l-mod, none_from_empty_mask, take_more_put_chunk, tops_compared}}
use Rattle.{std.proofs.lemmas.{Simd.{zip2_splat_left}, List.Elements.{All-append, All-from_get_or}}, dgt_values.specs.Bytes.{AreSevenBit}}
use lib.Lanes.{chunk, mask_l, put_chunk, top, zip2}

-- no lane has its top bit set if the mask of a comparison with 128 is empty
pub splat_clear : (lanes : List ℕ) → length lanes ≡ 64
    → mask_l (map (top 7) (zip2 (λ a b. cond (leb a b) 255 0) (replicate 64 128) lanes)) % 2 ^ 64
    ≡ 0 → AreSevenBit lanes
splat_clear lanes long none =
    let masked = ap (λ bits. mask_l bits % 2 ^ 64)
    (tops_compared w8 leb (replicate 64 128) lanes ∙ zip2_splat_left leb 128 64 lanes long)
    ∙ mask_l-mod (map (leb 128) lanes) 64 (omega (arith, length-map lanes (leb 128))) in
    let empty : mask_l (map (leb 128) (take 64 lanes)) ≡ 0 =
    ap (λ xs. mask_l (map (leb 128) xs)) (take_all 64 lanes (omega arith)) ∙ sym masked ∙ none in
    All-from_get_or (λ byte. byte < 128) lanes 0
    (λ i h. leb-false 128 (get_or lanes i 0)
    (none_from_empty_mask (leb 128) lanes 0 64 0 (omega arith) empty i (omega arith) (omega arith)))

-- the first bytes have been looked at, and copied after those that were there
pub record IsCopied (old bytes new : List ℕ) (start most at : ℕ) : Type 0 where
  pub within : at ≤ most
  pub long : length new ≡ length old
  pub clear : AreSevenBit (take at bytes)
  pub copied : take (start + at) new ≡ take start old ++ take at bytes

-- none at first
pub copied_none : (old bytes : List ℕ) (start most : ℕ) → IsCopied old bytes old start most 0
copied_none old bytes start most = search (rules, append-nil)

-- and then 128 more
pub copied_more : (old bytes new : List ℕ) (start most at : ℕ) → start + most ≤ length old
    → most ≤ length bytes → 128 ≤ most - at → AreSevenBit (chunk at 64 bytes)
    → AreSevenBit (chunk (at + 64) 64 bytes) → IsCopied old bytes new start most at
    → IsCopied old bytes
    (put_chunk (start + at + 64) (put_chunk (start + at) new (chunk at 64 bytes))
    (chunk (at + 64) 64 bytes)) start most (at + 128)
copied_more old bytes new start most at room enough more low_clear high_clear h =
    let low = chunk at 64 bytes in
    let high = chunk (at + 64) 64 bytes in
    let some = put_chunk (start + at) new low in
    let low_long = length-chunk at 64 bytes (omega (arith, enough, more)) in
    let high_long = length-chunk (at + 64) 64 bytes (omega (arith, enough, more)) in
    let some_long : length some ≡ length new = length-put_chunk (start + at) new low in
    let first : take (start + at + 64) some ≡ take (start + at) new ++ low =
    take_more_put_chunk (start + at) new low (start + at + 64) (omega (arith, low_long))
    (omega (arith, h.long, room, more)) in
    let second : take (start + (at + 128)) (put_chunk (start + at + 64) some high)
    ≡ take (start + at + 64) some ++ high
    =
    take_more_put_chunk (start + at + 64) some high (start + (at + 128)) (omega (arith, high_long))
    (omega (arith, some_long, h.long, room, more)) in
    let twice : at + 128 ≡ at + 64 + 64 = omega arith in
    let bytes_are : take (at + 128) bytes ≡ take at bytes ++ low ++ high =
    ap (λ n. take n bytes) twice ∙ take-add (at + 64) 64 bytes
    ∙ ap (λ xs. xs ++ high) (take-add at 64 bytes) in
    let before = take start old in
    record {
      within = omega (arith, more);
      long = omega (arith, length-put_chunk (start + at + 64) some high, some_long, h.long);
      clear = rw bytes_are (All-append (λ byte. byte < 128) (take at bytes ++ low) high
          (All-append (λ byte. byte < 128) (take at bytes) low h.clear low_clear) high_clear);
      copied = search (rules, append_assoc);
    }
