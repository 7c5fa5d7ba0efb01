-- How a placement may continue after a part of it was read.
use Prim.Native.Char.{code as ascii}
use Rattle.std.proofs.Common.{◌≡◌, ℕ, zero, suc, ◌+◌, ◌-◌, ◌*◌, ◌<◌, ◌≤◌, inl, inr, refl, arith, List, [], ◌∷◌, ◌++◌, length, take, drop, replicate, append_assoc, length-append, get_or, rules}
use Rattle.{std.proofs.lemmas.{List.{append-nil, length-replicate, length-take, length-drop, take_more, take_all}, Slice.{put_mid-paste}}, dgt_values.specs.Placement.{MeansSquares, IsPlacement}}
use Rattle.dgt_values.{specs.{Placement.{BeginsPlacement, IsFirstBadOffset}, declared.pieces.Piece.{Piece, TheVariants.{Empty}}}, proofs.Finishing.{Steps, Finishes, steps_one, placement_finishes}}
use Rattle.dgt_values.proofs.Finishing.{finishes_placement}
use borrow.Rule.Slice.PartMut.{put_mid}

-- the text so far leaves this many ranks and squares of its last rank, and has these pieces: it
-- continues to a placement exactly as these do
pub record Leaves (text : List ℕ) (ranks left : ℕ) (done : List Piece) : Type 0 where
  pub on : (more : List ℕ) (rest : List Piece) → Finishes more ranks left rest
      → IsPlacement (text ++ more) (done ++ rest)
  pub back : (more : List ℕ) (pieces : List Piece) → IsPlacement (text ++ more) pieces
      → (rest : List Piece) × Finishes more ranks left rest × (pieces ≡ done ++ rest)

-- nothing was read yet: eight ranks are left
pub leaves_start : Leaves [] 7 8 []
leaves_start = search (rules, finishes_placement, placement_finishes)

-- what finishes a text from a byte on, finishes it from the byte after
after_step : (more : List ℕ) (n s byte n' s' : ℕ) (done first pieces rest : List Piece)
    → Steps byte n s n' s' first → Finishes (byte ∷ more) n s rest → pieces ≡ done ++ rest
    → (left : List Piece) × Finishes more n' s' left × (pieces ≡ (done ++ first) ++ left)
after_step more n s byte n' s' done first pieces rest step (n2, s2, first2, rest2, step2, f, is) e =
    let same = steps_one byte n s n' s' n2 s2 first first2 step step2 in
    search (rules, append_assoc)

-- one more byte was read
pub leaves_more : (text : List ℕ) (n s : ℕ) (done : List Piece) (byte n' s' : ℕ)
    (first : List Piece) → Leaves text n s done → Steps byte n s n' s' first
    → Leaves (text ++ byte ∷ []) n' s' (done ++ first)
leaves_more text n s done byte n' s' first h step = record {
  on = search (rules, append_assoc);
  back = λ more pieces p.
      let known = h.back (byte ∷ more) pieces (rw (append_assoc text (byte ∷ []) more) at p) in
      after_step more n s byte n' s' done first pieces known.0 step known.1 known.2;
}

-- if nothing is left, the text is a placement
pub leaves_none : (text : List ℕ) (done : List Piece) → Leaves text 0 0 done → IsPlacement text done
leaves_none text done h = rw (append-nil text, append-nil done) at (h.on [] [] (refl, refl, refl))

-- a digit for this many squares of a rank, and the text after it
empty_squares : (n s : ℕ) → 1 ≤ s → s ≤ 8
    → (more : List ℕ) × (rest : List Piece) × Finishes more n 0 rest
    → (more : List ℕ) × (rest : List Piece) × Finishes more n s rest
empty_squares n s some few others =
    let byte : ℕ = ascii "0" + s in
    let squares : List Piece = replicate s Empty in
    let stands : MeansSquares byte squares = inl (record {
      count = s;
      at_least_one = some;
      at_most_eight = few;
      digit = refl;
      all_empty = refl;
    }) in
    let fewer : s ≡ length squares + 0 = omega (arith, length-replicate s Empty) in
    let step : Steps byte n s n 0 squares =
    inr (record { same_rank = refl; fewer = fewer; stands = stands }) in
    (byte ∷ others.0, squares ++ others.1, (n, 0, squares, others.1, step, others.2, refl))

-- a digit for each of the ranks that are left
ranks_left : (n : ℕ) → (more : List ℕ) × (rest : List Piece) × Finishes more n 0 rest
ranks_left zero = ([], [], (refl, refl, refl))
ranks_left (suc n) =
    let rank = empty_squares n 8 (omega arith) (omega arith) (ranks_left n) in
    let step : Steps (ascii "/") (suc n) 0 n 8 [] =
    inl (record { slash = refl; full = refl; one_less = refl; eight = refl; none = refl }) in
    (ascii "/" ∷ rank.0, rank.1, (n, 8, [], rank.1, step, rank.2, refl))

-- a digit for the rest of this rank
something_left : (n s : ℕ) → s ≤ 8 → (more : List ℕ) × (rest : List Piece) × Finishes more n s rest
something_left n zero h = ranks_left n
something_left n (suc s) h = empty_squares n (suc s) (omega arith) h (ranks_left n)

-- a text that can be completed begins a placement
pub leaves_begins : (text : List ℕ) (n s : ℕ) (done : List Piece) → Leaves text n s done → s ≤ 8
    → BeginsPlacement text
leaves_begins text n s done h le =
    let end = something_left n s le in
    (end.0, done ++ end.1, h.on end.0 end.1 end.2)

-- no beginning continues after a byte without effect
pub leaves_stuck : (text : List ℕ) (n s : ℕ) (done : List Piece) (byte : ℕ) → Leaves text n s done
    → ((n' s' : ℕ) (first : List Piece) → Steps byte n s n' s' first → ⊥)
    → BeginsPlacement (text ++ byte ∷ []) → ⊥
leaves_stuck text n s done byte h stuck (more, pieces, p) =
    let known = h.back (byte ∷ more) pieces (rw (append_assoc text (byte ∷ []) more) at p) in
    let f = known.1 in
    stuck f.0 f.1 f.2 f.4

-- if something is left, the text is too short
pub leaves_short : (text : List ℕ) (n s : ℕ) (done pieces : List Piece) → Leaves text n s done
    → (n ≡ 0 → s ≡ 0 → ⊥) → IsPlacement text pieces → ⊥
leaves_short text n s done pieces h some p =
    let known = h.back [] pieces (rw (append-nil text) p) in
    some known.1.0 known.1.1

-- a slash after a full rank
pub leaves_slash : (bytes : List ℕ) (pieces : List Piece) (at rank file : ℕ) → at < length bytes
    → rank < 7 → file ≡ 8 → get_or bytes at 0 ≡ ascii "/"
    → Leaves (take at bytes) (7 - rank) (8 - file) (take (8 * rank + file) pieces)
    → Leaves (take (at + 1) bytes) (7 - (rank + 1)) 8 (take (8 * (rank + 1) + 0) pieces)
leaves_slash bytes pieces at rank file lt less full slash h =
    let same : 8 * (rank + 1) + 0 ≡ 8 * rank + file = omega arith in
    let none : 8 - file ≡ 0 = omega arith in
    let one_less : 7 - rank ≡ suc (7 - (rank + 1)) = omega arith in
    let on = leaves_more (take at bytes) (7 - rank) (8 - file) (take (8 * rank + file) pieces)
    (get_or bytes at 0) (7 - (rank + 1)) 8 [] h
    (inl (record { slash = slash; full = none; one_less = one_less; eight = refl; none = refl })) in
    rw (take_more bytes at 0 lt, same) (rw (append-nil (take (8 * rank + file) pieces)) at on)

-- more squares of the rank
pub leaves_squares : (bytes : List ℕ) (pieces after squares : List Piece) (at rank file count : ℕ)
    → at < length bytes → file + count ≤ 8 → MeansSquares (get_or bytes at 0) squares
    → length squares ≡ count
    → take (8 * rank + (file + count)) after ≡ take (8 * rank + file) pieces ++ squares
    → Leaves (take at bytes) (7 - rank) (8 - file) (take (8 * rank + file) pieces)
    → Leaves (take (at + 1) bytes) (7 - rank) (8 - (file + count))
    (take (8 * rank + (file + count)) after)
leaves_squares bytes pieces after squares at rank file count lt room stands long written h =
    let fewer : 8 - file ≡ length squares + (8 - (file + count)) = omega arith in
    rw (take_more bytes at 0 lt, written)
    (search (rules, leaves_more))

-- a byte without effect is the first wrong one
pub first_bad : (bytes : List ℕ) (done : List Piece) (at n s : ℕ) → at < length bytes → s ≤ 8
    → Leaves (take at bytes) n s done
    → ((n' s' : ℕ) (first : List Piece) → Steps (get_or bytes at 0) n s n' s' first → ⊥)
    → IsFirstBadOffset bytes at
first_bad bytes done at n s lt le h stuck = record {
  within = omega arith;
  begins = leaves_begins (take at bytes) n s done h le;
  no_longer = λ _ begins. leaves_stuck (take at bytes) n s done (get_or bytes at 0) h stuck
      (rw (take_more bytes at 0 lt) at begins);
  too_short = λ end _ _. absurd (omega arith);
}

-- not a slash, and no squares that fit
pub no_step : (byte rank file : ℕ) → file ≤ 8 → (byte ≡ ascii "/" → file ≡ 8 → rank < 7 → ⊥)
    → ((squares : List Piece) → MeansSquares byte squares → 8 < file + length squares)
    → (n' s' : ℕ) (first : List Piece) → Steps byte (7 - rank) (8 - file) n' s' first → ⊥
no_step byte rank file le no_slash too_many n' s' first h9 = search rules

-- the whole text was read, and nothing is left
pub whole_placement : (bytes : List ℕ) (pieces : List Piece) (at rank file : ℕ) → length bytes ≤ at
    → rank ≡ 7 → file ≡ 8 → length pieces ≡ 64
    → Leaves (take at bytes) (7 - rank) (8 - file) (take (8 * rank + file) pieces)
    → IsPlacement bytes pieces
whole_placement bytes pieces at rank file end seven eight long h =
    search (rules, leaves_none, take_all)

-- a text that leaves something is too short
pub ends_short : (text : List ℕ) (n s : ℕ) (done : List Piece) → s ≤ 8 → Leaves text n s done
    → (n ≡ 0 → s ≡ 0 → ⊥) → IsFirstBadOffset text (length text)
ends_short text n s done le h some = record {
  within = omega arith;
  begins = rw (take_all (length text) text (omega arith)) (leaves_begins text n s done h le);
  no_longer = λ lt _. absurd (omega arith);
  too_short = λ _ found p. leaves_short text n s done found h some p;
}

-- the whole text was read, and something is left
pub short_placement : (bytes : List ℕ) (pieces : List Piece) (at rank file : ℕ) → length bytes ≤ at
    → rank ≤ 7 → file ≤ 8 → (rank ≡ 7 → file ≡ 8 → ⊥)
    → Leaves (take at bytes) (7 - rank) (8 - file) (take (8 * rank + file) pieces)
    → IsFirstBadOffset bytes (length bytes)
short_placement bytes pieces at rank file end rank_in file_in some h =
    ends_short bytes (7 - rank) (8 - file) (take (8 * rank + file) pieces) (omega arith)
    (rw (take_all at bytes end) at h) (λ a b. some (omega arith) (omega arith))

-- the squares that are filled at the next place
pub all_filled : (pieces filled : List Piece) (piece : Piece) (next count : ℕ)
    → next + count ≤ length pieces
    → filled ≡ replicate (length (take (next + count - next) (drop next pieces))) piece
    → filled ≡ replicate count piece
all_filled pieces filled piece next count room is = search (rules, length-take, length-drop)

-- a list keeps its length if part of it is overwritten
pub length_mid : {X : Type 0} (next count : ℕ) (pieces filled : List X)
    → next + count ≤ length pieces → length filled ≡ count
    → length (put_mid next count pieces filled) ≡ length pieces
length_mid next count pieces filled room many =
    search (rules, put_mid-paste, length-append, length-take, length-drop)
