-- Each text has an outcome.
use Prim.Native.Char.{code as ascii}
use Rattle.std.proofs.Common.{◌≡◌, ℕ, zero, suc, ◌+◌, ◌-◌, ◌<◌, ◌≤◌, ◌⊎◌, inl, inr, refl, sym, ap, ◌∙◌, arith, List, [], ◌∷◌, ◌++◌, length, replicate, append_assoc, length-append, rules}
use Rattle.std.{proofs.{Math.Seq.{get_or-append_seam}, lemmas.{Bool.{cases_eq, cases_lt}, List.{append-nil, take_at}}}, specs.Prelude.{◌≢◌, Result, Ok, Err}}
use Rattle.dgt_values.specs.{Board.{piece_letter}, Placement.{MeansSquares, IsFirstBadOffset, ParsesPlacement}, declared.{pieces.Piece.{Piece}, positions.Position.{Position}}}
use Rattle.dgt_values.{specs.declared.{refusals.BadPlacement.{BadPlacement}, pieces.Piece.TheVariants.{Empty}}, proofs.{Finishing.{means_one, above_slash, Steps}, PieceCodes.{letter_piece}}}
use Rattle.dgt_values.proofs.{PieceCodes.{letter_piece-letter}, Reading.{Leaves, leaves_start, leaves_more, leaves_none, first_bad, ends_short}, Written.{placement_long}}

-- a byte is a piece's letter or it isn't
letter_or_not : (byte : ℕ)
    → ((piece : Piece) × (piece ≢ Empty) × (byte ≡ piece_letter piece))
    ⊎ ((piece : Piece) → piece ≢ Empty → byte ≡ piece_letter piece → ⊥)
letter_or_not byte = elim (cases_eq byte (ascii ".")) [
  | inl dot ↦ search (rules, letter_piece-letter, letter_piece)
  | inr other ↦ elim (cases_eq (piece_letter (letter_piece byte)) byte) [
    | inl same ↦ inl (letter_piece byte, λ e. other (sym same ∙ ap piece_letter e), sym same)
    | inr none ↦ inr (λ piece full e. none (cc (letter_piece-letter piece)))
  ]
]

-- a byte that isn't a letter is a digit from 1 to 8 or means nothing
digit_or_not : (byte : ℕ) → ((piece : Piece) → piece ≢ Empty → byte ≡ piece_letter piece → ⊥)
    → (ascii "0" < byte) ⊎ (byte ≤ ascii "0") → (byte < ascii "9") ⊎ (ascii "9" ≤ byte)
    → ((squares : List Piece) × MeansSquares byte squares)
    ⊎ ((squares : List Piece) → MeansSquares byte squares → ⊥)
digit_or_not byte none (inl low) (inl high) =
    let digit : byte ≡ ascii "0" + (byte - ascii "0") = omega arith in
    inl (replicate (byte - ascii "0") Empty, inl (search rules))
digit_or_not byte none (inl low) (inr high) = inr (λ squares means. search rules)
digit_or_not byte none (inr low) high = inr (λ squares means. search rules)

-- a byte means squares or it doesn't
means_or_not : (byte : ℕ)
    → ((squares : List Piece) × MeansSquares byte squares)
    ⊎ ((squares : List Piece) → MeansSquares byte squares → ⊥)
means_or_not byte = elim (letter_or_not byte) [
  | inl letter ↦ inl (
    letter.0 ∷ [],
    inr (record { piece = letter.0; not_empty = letter.1; letter = letter.2; one_square = refl }),
  )
  | inr none ↦ digit_or_not byte none (cases_lt (ascii "0") byte) (cases_lt byte (ascii "9"))
]

-- squares that do not fit in the rank are not a step
too_long : (byte n s : ℕ) (squares : List Piece) → MeansSquares byte squares → s < length squares
    → (n' s' : ℕ) (first : List Piece) → Steps byte n s n' s' first → ⊥
too_long byte n s squares stands long n' s' first (inl x) =
    omega (arith, x.slash, above_slash byte squares stands)
too_long byte n s squares stands long n' s' first (inr x) =
    omega (arith, x.fewer, ap length (means_one byte first squares x.stands stands))

-- the effect of a byte after this many ranks and squares: a step, or nothing
record Step (byte n s : ℕ) : Type 0 where
  ranks : ℕ
  left : ℕ
  first : List Piece
  left_in : left ≤ 8
  steps : Steps byte n s ranks left first

-- the byte has no effect
abbrev IsStuck : ℕ → ℕ → ℕ → Type 0
IsStuck byte n s = (n' s' : ℕ) (first : List Piece) → Steps byte n s n' s' first → ⊥

-- a byte that means squares is a step if they fit
with_squares : (byte n s : ℕ) (squares : List Piece) → s ≤ 8 → MeansSquares byte squares
    → (s < length squares) ⊎ (length squares ≤ s) → Step byte n s ⊎ IsStuck byte n s
with_squares byte n s squares le stands (inl long) = inr (too_long byte n s squares stands long)
with_squares byte n s squares le stands (inr fits) =
    let left : ℕ = s - length squares in
    let fewer : s ≡ length squares + left = omega arith in
    let step : Steps byte n s n left squares =
    inr (record { same_rank = refl; fewer = fewer; stands = stands }) in
    inl (record { ranks = n; left = left; first = squares; left_in = omega arith; steps = step })

-- a byte that means nothing and isn't a slash in its place has no effect
no_slash : (byte n s : ℕ) → ((squares : List Piece) → MeansSquares byte squares → ⊥)
    → (byte ≡ ascii "/" → s ≡ 0 → 0 < n → ⊥) → IsStuck byte n s
no_slash byte n s none refused n' s' first (inl x) =
    refused x.slash x.full (omega (arith, x.one_less))
no_slash byte n s none refused n' s' first (inr x) = none first x.stands

-- a byte that means nothing is a step if it is a slash in its place
with_slash : (byte n s : ℕ) → ((squares : List Piece) → MeansSquares byte squares → ⊥)
    → ((byte ≡ ascii "/") ⊎ (byte ≢ ascii "/")) → Step byte n s ⊎ IsStuck byte n s
with_slash byte (suc n) zero none (inl slash) =
    let step : Steps byte (suc n) 0 n 8 [] =
    inl (record { slash = slash; full = refl; one_less = refl; eight = refl; none = refl }) in
    inl (record { ranks = n; left = 8; first = []; left_in = omega arith; steps = step })
with_slash byte n s none (inl slash) = inr (no_slash byte n s none (λ _ full less. omega arith))
with_slash byte n s none (inr other) = inr (no_slash byte n s none (λ slash _ _. other slash))

-- a byte is a step or has no effect
step_or_not : (byte n s : ℕ) → s ≤ 8 → Step byte n s ⊎ IsStuck byte n s
step_or_not byte n s le = elim (means_or_not byte) [
  | inl known ↦ with_squares byte n s known.0 le known.1 (cases_lt s (length known.0))
  | inr none ↦ with_slash byte n s none (cases_eq byte (ascii "/"))
]

-- a text with its outcome
abbrev Outcome : List ℕ → Type 0
Outcome text = (r : Result Position BadPlacement) × ParsesPlacement text r

-- the outcome of a text that was read to its end
outcome_at_end : (text : List ℕ) (n s : ℕ) (done : List Piece) → s ≤ 8 → Leaves text n s done
    → Outcome text
outcome_at_end text zero zero done le h =
    let accepted = leaves_none text done h in
    (Ok (record { pieces = done; all = placement_long text done accepted }), accepted)
outcome_at_end text n s done le h =
    (Err (record { at = length text }), ends_short text n s done le h (λ none full. omega arith))

-- a byte without effect is the first wrong one
stuck_is_bad : (text rest : List ℕ) (byte n s : ℕ) (done : List Piece) → s ≤ 8
    → Leaves text n s done → IsStuck byte n s → IsFirstBadOffset (text ++ byte ∷ rest) (length text)
stuck_is_bad text rest byte n s done le h stuck =
    let inside : length text < length (text ++ byte ∷ rest) =
    omega (arith, length-append text (byte ∷ rest)) in
    let prefix = take_at text (byte ∷ rest) (length text) refl in
    let here = get_or-append_seam text byte rest 0 in
    first_bad (text ++ byte ∷ rest) done (length text) n s inside le (rw prefix h) (rw here stuck)

-- the rest of a text has an outcome
outcome_from : (rest text : List ℕ) (n s : ℕ) (done : List Piece) → s ≤ 8 → Leaves text n s done
    → Outcome (text ++ rest)
outcome_from [] text n s done le h = rw (append-nil text) (outcome_at_end text n s done le h)
outcome_from (byte ∷ rest) text n s done le h = elim (step_or_not byte n s le) [
  | inl step ↦ rw (append_assoc text (byte ∷ []) rest) at
      (outcome_from rest (text ++ byte ∷ []) step.ranks step.left (done ++ step.first) step.left_in
      (leaves_more text n s done byte step.ranks step.left step.first h step.steps))
  | inr stuck ↦ (Err (record { at = length text }), stuck_is_bad text rest byte n s done le h stuck)
]

-- each text has an outcome
pub some_outcome : (text : List ℕ) → Outcome text
some_outcome text = outcome_from text [] 7 8 [] (omega arith) leaves_start
