-- A text has either one position or one first wrong offset.
use Rattle.std.proofs.{Common.{◌≡◌, ℕ, ◌+◌, ◌<◌, inl, inr, ap, arith, List, [], ◌++◌, length, take, drop, append_assoc}, Math.Nat.{ℕ_set}, lemmas.{Bool.{cases_lt}, List.{append-nil, take-take}}}
use Rattle.{std.{proofs.lemmas.List.{take-append-drop}, specs.Prelude.{Result, Ok, Err}}, dgt_values.specs.{Board.{pieces_of}, Placement.{IsPlacement, BeginsPlacement, IsFirstBadOffset}}}
use Rattle.dgt_values.{specs.{Placement.{ParsesPlacement}, declared.{pieces.Piece.{Piece}, positions.Position.{Position}, refusals.BadPlacement.{BadPlacement}}}, proofs.Finishing.{finishes_one}}
use Rattle.dgt_values.proofs.Finishing.{placement_finishes}
use mathlib.Core.HLevel.{is_prop→PathP}

-- a text has one position at most
pub one_position : (text : List ℕ) (a b : List Piece) → IsPlacement text a → IsPlacement text b
    → a ≡ b
one_position text a b h k =
    finishes_one text 7 8 a b (placement_finishes text a h) (placement_finishes text b k)

-- a prefix of a beginning is a beginning
begins_shorter : (text more : List ℕ) → BeginsPlacement (text ++ more) → BeginsPlacement text
begins_shorter text more (rest, pieces, p) =
    (more ++ rest, pieces, rw (append_assoc text more rest) at p)

-- the beginning of a beginning begins
begins_take : (text : List ℕ) (n : ℕ) → BeginsPlacement text → BeginsPlacement (take n text)
begins_take text n b = begins_shorter (take n text) (drop n text) (rw (take-append-drop n text) b)

-- an accepted text has no first wrong offset
not_both : (text : List ℕ) (pieces : List Piece) (at : ℕ) → IsPlacement text pieces
    → IsFirstBadOffset text at → ⊥
not_both text pieces at p bad = elim (cases_lt at (length text)) [
  | inl lt ↦ bad.no_longer lt (begins_take text (at + 1) ([], pieces, rw (append-nil text) p))
  | inr le ↦ let end : at ≡ length text = omega (arith, bad.within) in bad.too_short end pieces p
]

-- no first wrong offset is before another
not_before : (text : List ℕ) (first second : ℕ) → IsFirstBadOffset text first
    → IsFirstBadOffset text second → first < second → ⊥
not_before text first second a b lt =
    let inside : first < length text = omega (arith, b.within) in
    a.no_longer inside
    (rw (← take-take (first + 1) second text (omega arith))
    (begins_take (take second text) (first + 1) b.begins))

-- a text has at most one first wrong offset
one_offset : (text : List ℕ) (first second : ℕ) → IsFirstBadOffset text first
    → IsFirstBadOffset text second → first ≡ second
one_offset text first second a b =
    omega (arith, not_before text first second a b, not_before text second first b a)

-- a position is its pieces
pub same_position : (a b : Position) → pieces_of a ≡ pieces_of b → a ≡ b
same_position a b same =
    let all = is_prop→PathP (λ j. length (same j) ≡ 64) (λ j. ℕ_set _ _) a.all b.all in
    λ i. record { pieces = same i; all = all i }

-- a text has one outcome at most
pub one_outcome : (text : List ℕ) (r s : Result Position BadPlacement) → ParsesPlacement text r
    → ParsesPlacement text s → r ≡ s
one_outcome text (Ok a) (Ok b) h k =
    ap Ok (same_position a b (one_position text (pieces_of a) (pieces_of b) h k))
one_outcome text (Ok a) (Err e) h k = absurd (not_both text (pieces_of a) e.at h k)
one_outcome text (Err e) (Ok a) h k = absurd (not_both text (pieces_of a) e.at k h)
one_outcome text (Err e) (Err f) h k =
    let offset : ℕ → Result Position BadPlacement = λ n. Err (record { at = n }) in
    ap offset (one_offset text e.at f.at h k)
