-- The written text of a position.
use Prim.Native.Char.{code as ascii}
use Rattle.std.proofs.Common.{◌≡◌, ℕ, zero, suc, ◌+◌, ◌*◌, ◌≤◌, ◌⊎◌, inl, inr, refl, sym, ap, ◌∙◌, arith, List, [], ◌∷◌, ◌++◌, length, take, drop, replicate, append_assoc, length-append, length-take}
use Rattle.std.proofs.{Common.{length-drop, zero-add, rules}, lemmas.{Bool.{ne_eqb}, Grind.{replicate_next, common_steps}, List.{append-nil, nil_from_length, take-append-drop, take_at, drop_at}}}
use Rattle.std.{proofs.lemmas.{Bool.Decides.{eqb_tells, nat_tests}, List.Sums.{sum_by-append}}, specs.{Char.{IsAsciiDigit}, List.{join_with_byte}, Prelude.{◌≢◌, ◌<◌, Bool, true, false, cond, ◌&&◌}}}
use Rattle.{std.specs.Prelude.{nat_le}, dgt_values.specs.{Board.{piece_letter}, Placement.{MeansSquares, digit_count, IsRank, AreRanks, IsPlacement, run_text, rank_text_after, ranks_text}}}
use Rattle.dgt_values.{specs.{Placement.{placement_text}, declared.pieces.Piece.{Piece, TheVariants.{Empty}}}, proofs.Apart.{Apart, apart_around, apart_before, apart_after, BeginsWithDigit}}
use Rattle.dgt_values.proofs.{Finishing.{letter_above}, PieceCodes.{letter_one}, Placing.{text_after_piece}}

-- a square is empty or not
empty_or_not : (piece : Piece) → (piece ≡ Empty) ⊎ (piece ≢ Empty)
empty_or_not piece = search (rules, eqb_tells, letter_one)

-- a run of one or more empty squares is one digit
run_digit : (count : ℕ) → 1 ≤ count → run_text count ≡ (ascii "0" + count) ∷ []
run_digit count some = rw (ne_eqb count 0 (λ h. omega arith)) refl

-- a run of empty squares, and the text after it
run_rank : (empty : ℕ) (bytes : List ℕ) (squares : List Piece) → empty ≤ 8 → IsRank bytes squares
    → IsRank (run_text empty ++ bytes) (replicate empty Empty ++ squares)
run_rank empty bytes squares le h = search (rules, run_digit)

-- an empty square makes the run before it longer
text_after_empty : (piece : Piece) (empty : ℕ) (squares : List Piece) → piece ≡ Empty
    → rank_text_after empty (piece ∷ squares) ≡ rank_text_after (empty + 1) squares
text_after_empty piece empty squares is = ap (λ p. rank_text_after empty (p ∷ squares)) is

-- the squares of a longer run
one_more : (piece : Piece) (empty : ℕ) (squares : List Piece) → piece ≡ Empty
    → replicate empty Empty ++ piece ∷ squares ≡ replicate (empty + 1) Empty ++ squares
one_more piece empty squares is = search (rules, replicate_next, append_assoc)

-- the text of a rank, after a run of empty squares, is one of its texts
rank_after : (squares : List Piece) (empty : ℕ) → empty + length squares ≤ 8
    → IsRank (rank_text_after empty squares) (replicate empty Empty ++ squares)
rank_after [] empty le =
    rw (← append-nil (run_text empty)) (run_rank empty [] [] (omega arith) refl)
rank_after (piece ∷ squares) empty le = elim (empty_or_not piece) [
  | inl is ↦
      search (rules, text_after_empty, one_more, rank_after squares (empty + 1) (omega arith))
  | inr other ↦ let stands : MeansSquares (piece_letter piece) (piece ∷ []) =
      inr (record { piece = piece; not_empty = other; letter = refl; one_square = refl }) in
      rw (text_after_piece piece empty squares other)
      (search (rules, run_rank, rank_after squares 0 (omega arith)))
]

-- the texts of the ranks of a position are texts of its ranks
are_ranks : (n : ℕ) (pieces : List Piece) → length pieces ≡ 8 * n
    → AreRanks (ranks_text n pieces) pieces
are_ranks zero pieces long = nil_from_length pieces long
are_ranks (suc n) pieces long =
    let prefix : length (take 8 pieces) ≡ 8 = omega (arith, length-take 8 pieces) in
    let back : length (drop 8 pieces) ≡ 8 * n = omega (arith, length-drop 8 pieces) in
    let rank = rank_after (take 8 pieces) 0 (omega arith) in
    let others = are_ranks n (drop 8 pieces) back in
    (take 8 pieces, drop 8 pieces, prefix, rank, others, sym (take-append-drop 8 pieces))

-- the written text is accepted
pub written_placement : (pieces : List Piece) → length pieces ≡ 64
    → IsPlacement (placement_text pieces) pieces
unfolding placement_text
written_placement pieces long =
    let each = are_ranks 8 pieces long in
    record { ranks = ranks_text 8 pieces; eight = refl; joined = refl; each = each }

-- ranks have eight squares each
are_long : (ranks : List (List ℕ)) (pieces : List Piece) → AreRanks ranks pieces
    → length pieces ≡ 8 * length ranks
are_long [] pieces none = ap length none
are_long (rank ∷ ranks) pieces (squares, rest, eight, h, more, is) =
    omega (arith, ap length is, length-append squares rest, are_long ranks rest more)

-- an accepted text has a piece for each square of the board
pub placement_long : (text : List ℕ) (pieces : List Piece) → IsPlacement text pieces
    → length pieces ≡ 64
placement_long text pieces p = omega (arith, are_long p.ranks pieces p.each, p.eight)

-- the text of a run is one digit at most
run_apart : (empty : ℕ) → Apart (run_text empty)
run_apart empty = search (rules, run_digit)

-- no two digits of a written rank are adjacent
rank_apart : (squares : List Piece) (empty : ℕ) → Apart (rank_text_after empty squares)
rank_apart [] empty = run_apart empty
rank_apart (piece ∷ squares) empty = elim (empty_or_not piece) [
  | inl is ↦ rw (text_after_empty piece empty squares is) (rank_apart squares (empty + 1))
  | inr other ↦
      rw (text_after_piece piece empty squares other)
      (apart_around (run_text empty) (piece_letter piece) (rank_text_after 0 squares)
      (run_apart empty)
      (λ digit. omega (arith, digit.1, letter_above piece other)) (rank_apart squares 0))
]

-- no two digits of written ranks are adjacent
ranks_apart : (n : ℕ) (pieces : List Piece)
    → Apart (join_with_byte (ascii "/") (ranks_text n pieces))
ranks_apart zero pieces = tt
ranks_apart (suc zero) pieces = rank_apart (take 8 pieces) 0
ranks_apart (suc (suc n)) pieces =
    search (rules, apart_around, rank_apart, ranks_apart (suc n) (drop 8 pieces))

-- no two digits of the written text are adjacent
pub written_apart : (pieces : List Piece) → Apart (placement_text pieces)
unfolding placement_text
written_apart pieces = ranks_apart 8 pieces

-- a run after a run is a single run
run_after : (count empty : ℕ) (rest : List Piece)
    → rank_text_after empty (replicate count Empty ++ rest) ≡ rank_text_after (empty + count) rest
run_after zero empty rest = let same : empty + 0 ≡ empty = omega arith in rw same refl
run_after (suc count) empty rest = search (rules, run_after count (empty + 1) rest)

-- the text after a run of empty squares is written unchanged if it doesn't begin with a digit
after_run : (bytes : List ℕ) (rest : List Piece) (count : ℕ) → IsRank bytes rest
    → (BeginsWithDigit bytes → ⊥)
    → rank_text_after count rest ≡ run_text count ++ rank_text_after 0 rest
after_run [] rest count none other = rw none (sym (append-nil (run_text count)))
after_run (byte ∷ bytes) rest count (first, others, inl run, h, is) other =
    absurd (other (omega (arith, run.digit), omega (arith, run.digit, run.at_most_eight)))
after_run (byte ∷ bytes) rest count (first, others, inr letter, h, is) other =
    let whole : rest ≡ letter.piece ∷ others = is ∙ ap (λ l. l ++ others) letter.one_square in
    rw (
      whole,
      text_after_piece letter.piece count others letter.not_empty,
      text_after_piece letter.piece 0 others letter.not_empty,
    ) refl

-- no other text of a rank keeps its digits apart
only_rank : (bytes : List ℕ) (squares : List Piece) → IsRank bytes squares → Apart bytes
    → bytes ≡ rank_text_after 0 squares
only_rank [] squares none apart = ap (rank_text_after 0) (sym none)
only_rank (byte ∷ bytes) squares (first, rest, inr letter, h, is) apart =
    let whole : squares ≡ letter.piece ∷ rest = is ∙ ap (λ l. l ++ rest) letter.one_square in
    rw (whole, text_after_piece letter.piece 0 rest letter.not_empty, letter.letter)
    (ap (λ l. piece_letter letter.piece ∷ l) (only_rank bytes rest h apart.1))
only_rank (byte ∷ bytes) squares (first, rest, inl run, h, is) apart =
    let whole : squares ≡ replicate run.count Empty ++ rest =
    is ∙ ap (λ l. l ++ rest) run.all_empty in
    let digit : IsAsciiDigit byte =
    (omega (arith, run.digit), omega (arith, run.digit, run.at_most_eight)) in
    let after : rank_text_after 0 squares ≡ run_text run.count ++ rank_text_after 0 rest =
    ap (rank_text_after 0) whole ∙ run_after run.count 0 rest
    ∙ ap (λ n. rank_text_after n rest) (zero-add run.count)
    ∙ after_run bytes rest run.count h (apart.0 digit) in
    rw (after, run_digit run.count run.at_least_one, run.digit)
    (ap (λ l. (ascii "0" + run.count) ∷ l) (only_rank bytes rest h apart.1))

-- the first rank of a text, and the others
apart_ranks : (rank : List ℕ) (ranks : List (List ℕ))
    → Apart (join_with_byte (ascii "/") (rank ∷ ranks))
    → Apart rank × Apart (join_with_byte (ascii "/") ranks)
apart_ranks rank ranks apart = search (rules, apart_before, apart_after)

-- no other texts of the ranks keep their digits apart
only_ranks : (ranks : List (List ℕ)) (pieces : List Piece) → AreRanks ranks pieces
    → Apart (join_with_byte (ascii "/") ranks) → ranks ≡ ranks_text (length ranks) pieces
only_ranks [] pieces none apart = refl
only_ranks (rank ∷ ranks) pieces (squares, rest, eight, h, more, is) apart =
    let each = apart_ranks rank ranks apart in
    rw (is, take_at squares rest 8 eight, drop_at squares rest 8 eight)
    (cc (only_rank rank squares h each.0, only_ranks ranks rest more each.1))

-- no other text of the position keeps its digits apart
pub only_placement : (text : List ℕ) (pieces : List Piece) → IsPlacement text pieces → Apart text
    → text ≡ placement_text pieces
unfolding placement_text
only_placement text pieces p apart = search (rules, only_ranks)

-- a byte from 0 to 9 counts as a digit, and no other byte does
abbrev is_digit : ℕ → Bool
is_digit byte = nat_le (ascii "0") byte && nat_le byte (ascii "9")

-- a byte from 0 to 9 is counted
counts_digit : (byte : ℕ) → ascii "0" ≤ byte → byte ≤ ascii "9" → is_digit byte ≡ true
counts_digit byte low high = grind (arith, nat_tests)

-- a letter is not counted
counts_above : (byte : ℕ) → ascii "9" < byte → is_digit byte ≡ false
counts_above byte high = grind (arith, nat_tests)

-- the digits of a list are those of its parts
counts_joined : (before after : List ℕ)
    → digit_count (before ++ after) ≡ digit_count before + digit_count after
counts_joined before after = sum_by-append (λ byte. cond (is_digit byte) 1 0) before after

-- a byte that isn't a digit adds nothing
counts_other : (byte : ℕ) (bytes : List ℕ) → is_digit byte ≡ false
    → digit_count (byte ∷ bytes) ≡ digit_count bytes
counts_other byte bytes h = search (rules, counts_joined)

-- a digit adds one
counts_one : (byte : ℕ) (bytes : List ℕ) → is_digit byte ≡ true
    → digit_count (byte ∷ bytes) ≡ suc (digit_count bytes)
counts_one byte bytes h = grind (arith, common_steps, counts_joined)

-- a run has one digit at most
few_in_run : (empty : ℕ) → digit_count (run_text empty) ≤ 1
few_in_run empty = search (rules, run_digit, counts_one, counts_other)

-- a rank after a run of empty squares, written with no more digits than another of its texts
few_in_rank : (bytes : List ℕ) (squares : List Piece) (empty : ℕ) → IsRank bytes squares
    → digit_count (rank_text_after empty squares) ≤ digit_count (run_text empty) + digit_count bytes
few_in_rank [] squares empty none = rw none (omega arith)
few_in_rank (byte ∷ bytes) squares empty (first, rest, inl run, h, is) =
    let others = few_in_rank bytes rest (empty + run.count) h in
    search (rules, run_after, counts_one, counts_digit, few_in_run, others)
few_in_rank (byte ∷ bytes) squares empty (first, rest, inr letter, h, is) =
    let whole : squares ≡ letter.piece ∷ rest = is ∙ ap (λ l. l ++ rest) letter.one_square in
    let after =
    ap (rank_text_after empty) whole ∙ text_after_piece letter.piece empty rest letter.not_empty in
    let above = letter_above letter.piece letter.not_empty in
    let one = counts_other byte bytes (counts_above byte (omega (arith, letter.letter, above))) in
    let other = counts_other (piece_letter letter.piece) (rank_text_after 0 rest)
    (counts_above (piece_letter letter.piece) above) in
    let joined =
    counts_joined (run_text empty) (piece_letter letter.piece ∷ rank_text_after 0 rest) in
    let others = few_in_rank bytes rest 0 h in
    omega (arith, ap digit_count after, joined, others, one, other)

-- as many texts, none with more digits than its partner
abbrev NoMoreDigits : List (List ℕ) → List (List ℕ) → Type 0
NoMoreDigits [] [] = Unit {0}
NoMoreDigits (rank ∷ ranks) (other ∷ others) =
    (digit_count rank ≤ digit_count other) × NoMoreDigits ranks others
NoMoreDigits _ _ = ⊥

-- joining texts with no more digits by slashes gives no more digits
few_joined : (ranks others : List (List ℕ)) → NoMoreDigits ranks others
    → digit_count (join_with_byte (ascii "/") ranks)
    ≤ digit_count (join_with_byte (ascii "/") others)
few_joined (rank ∷ next ∷ ranks) (other ∷ more ∷ others) h =
    search (rules, counts_joined, few_joined (next ∷ ranks) (more ∷ others) h.1)
few_joined ranks others h = search rules

-- written ranks have no more digits than others
few_in_ranks : (ranks : List (List ℕ)) (pieces : List Piece) → AreRanks ranks pieces
    → NoMoreDigits (ranks_text (length ranks) pieces) ranks
few_in_ranks [] pieces none = tt
few_in_ranks (rank ∷ ranks) pieces (squares, rest, eight, h, more, is) =
    rw (is, take_at squares rest 8 eight, drop_at squares rest 8 eight)
    (omega (arith, few_in_rank rank squares 0 h), few_in_ranks ranks rest more)

-- no text of the position has fewer digits
pub fewest_digits : (text : List ℕ) (pieces : List Piece) → IsPlacement text pieces
    → digit_count (placement_text pieces) ≤ digit_count text
unfolding placement_text
fewest_digits text pieces p =
    rw p.joined
    (few_joined (ranks_text 8 pieces) p.ranks (rw p.eight at (few_in_ranks p.ranks pieces p.each)))
