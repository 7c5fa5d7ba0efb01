-- The texts of ranks.
use Prim.Native.Char.{code as ascii}
use Rattle.std.proofs.Common.{take-take, true≢false, Bool, ◌≤◌, ◌-◌, ◌&&◌, subst, true, false, slice_index_or, ◌≡◌, ℕ, zero, suc, ◌+◌, ◌*◌, ◌/◌, ◌%◌, ◌<◌, List, [], ◌∷◌, ◌++◌, ◌∙◌, ap, append_assoc}
use Rattle.std.proofs.{Common.{arith, drop, get_or, length, refl, sym, take, rules}, Math.Seq.{take-append_seam}, lemmas.{Grind.{common_steps}, List.{take_more_set, drop-drop}}}
use Rattle.{std.{proofs.lemmas.List.{drop-set-add, take-set-le}, specs.{List.{join_with_byte}, Prelude.{◌≢◌, codes, flat_map, slice_set}}}, dgt_values.specs.Board.{piece_code, piece_letter}}
use Rattle.dgt_values.{specs.{Placement.{placement_text, rank_text_after, ranks_text, run_text}, declared.pieces.Piece.{Piece, TheVariants.{Empty}}}, proofs.Placing.{one_more_empty, one_more_piece}}

-- ---- one rank, a piece after another

-- the letters of pieces, with a digit instead of the first one
abbrev pub letters_with : List ℕ
letters_with = codes "1PRNBKQprnbkqXYZ"

pub letter_of : (piece : Piece) → piece ≢ Empty
    → slice_index_or letters_with (piece_code piece) 0 ≡ piece_letter piece
letter_of piece h = search rules

-- what is written of a rank: a prefix, and the digit of the run of empty squares after it, if there
-- is one
pub record RankSoFar (written : List ℕ) (was_empty : Bool) (last seen : ℕ) (later : List Piece)
    (whole : List ℕ) :
    Type 0 where
  pub prefix : List ℕ
  pub empty : ℕ
  pub ends : written ≡ prefix ++ run_text empty
  pub goes_on : prefix ++ rank_text_after empty later ≡ whole
  pub digit : was_empty ≡ true → (0 < empty) × (last ≡ ascii "0" + empty)
  pub no_digit : was_empty ≡ false → empty ≡ 0
  pub few : empty ≤ seen

module _ (rank : List Piece) (i len last : ℕ) (bytes whole : List ℕ)
    (inside : i < length rank) where
  -- one empty square more of a run
  pub counted : (before : RankSoFar (take len bytes) true last i (drop i rank) whole)
      → len ≤ length bytes → get_or rank i Empty ≡ Empty
      → RankSoFar (take len (slice_set bytes (len - 1) (last + 1))) true (last + 1) (i + 1)
      (drop (i + 1) rank) whole
  counted before room e =
      let some = before.digit refl in
      let long : len ≡ length before.prefix + 1 = grind (arith, common_steps) in
      let next : len - 1 + 1 ≡ len = omega arith in
      let prefix : take (len - 1) bytes ≡ before.prefix =
      sym (take-take (len - 1) len bytes (omega arith)) ∙ ap (take (len - 1)) before.ends
      ∙ ap (λ n. take n (before.prefix ++ run_text before.empty)) (omega arith)
      ∙ take-append_seam before.prefix (run_text before.empty) in
      search (rules, take_more_set, one_more_empty)

  -- the first empty square of a run
  pub begun : RankSoFar (take len bytes) false last i (drop i rank) whole → len < length bytes
      → get_or rank i Empty ≡ Empty
      → RankSoFar (take (len + 1) (slice_set bytes len (ascii "1"))) true (ascii "1") (i + 1)
      (drop (i + 1) rank) whole
  begun before room e = search (rules, take_more_set, one_more_empty)

  -- a piece
  pub lettered : (was_empty : Bool) (letter : ℕ)
      → RankSoFar (take len bytes) was_empty last i (drop i rank) whole → len < length bytes
      → get_or rank i Empty ≢ Empty → letter ≡ piece_letter (get_or rank i Empty)
      → RankSoFar (take (len + 1) (slice_set bytes len letter)) false letter (i + 1)
      (drop (i + 1) rank) whole
  lettered was_empty letter before room ne e = search (rules, take_more_set, one_more_piece)

  -- with the byte at k - 1 written, k bytes are
  abbrev NextSoFar : ℕ → ℕ → Bool → Type 0
  NextSoFar k next empty =
      RankSoFar (take k (slice_set bytes (k - 1) next)) empty next (i + 1) (drop (i + 1) rank) whole

  pub counted_next : (was_empty empty : Bool) (k next : ℕ)
      → RankSoFar (take len bytes) was_empty last i (drop i rank) whole → len ≤ length bytes
      → (empty ≡ true → get_or rank i Empty ≡ Empty) → (empty && was_empty) ≡ true → k ≡ len
      → next ≡ last + 1 → NextSoFar k next empty
  counted_next was_empty empty k next before room is both ek en = search (rules, counted)

  pub other_next : (was_empty empty : Bool) (k next : ℕ)
      → RankSoFar (take len bytes) was_empty last i (drop i rank) whole → len < length bytes
      → (empty ≡ true → get_or rank i Empty ≡ Empty) → (get_or rank i Empty ≡ Empty → empty ≡ true)
      → (empty && was_empty) ≡ false → k ≡ len + 1
      → (get_or rank i Empty ≡ Empty → next ≡ ascii "1")
      → (get_or rank i Empty ≢ Empty → next ≡ piece_letter (get_or rank i Empty))
      → NextSoFar k next empty
  other_next was_empty empty k next before room is is_not both ek one letter =
      subst (λ j. NextSoFar j next empty) (sym ek)
      (subst
      (λ j. RankSoFar (take (len + 1) (slice_set bytes j next)) empty next (i + 1)
      (drop (i + 1) rank) whole) e (go was_empty empty before both is is_not))
    where
      e : len ≡ len + 1 - 1
      e = omega arith

      go : (was_empty empty : Bool)
          → RankSoFar (take len bytes) was_empty last i (drop i rank) whole
          → (empty && was_empty) ≡ false → (empty ≡ true → get_or rank i Empty ≡ Empty)
          → (get_or rank i Empty ≡ Empty → empty ≡ true)
          → RankSoFar (take (len + 1) (slice_set bytes len next)) empty next (i + 1)
          (drop (i + 1) rank) whole
      go true true before both is is_not = absurd (true≢false both)
      go false true before both is is_not =
          subst
          (λ n. RankSoFar (take (len + 1) (slice_set bytes len n)) true n (i + 1)
          (drop (i + 1) rank) whole) (sym (one (is refl))) (begun before room (is refl))
      go was_empty false before both is is_not = search (rules, lettered)

-- nothing is written of a rank
pub so_far_none : (rank : List Piece) → RankSoFar [] false 0 0 rank (rank_text_after 0 rank)
so_far_none rank = record {
  prefix = [];
  empty = 0;
  ends = refl;
  goes_on = refl;
  digit = λ h. absurd (true≢false (sym h));
  no_digit = λ _. refl;
  few = omega arith;
}

-- ---- a square is set

abbrev pub rank_text : List Piece → List ℕ
rank_text pieces = rank_text_after 0 pieces

ranks_text-set : (n q r : ℕ) (pieces : List Piece) (piece : Piece) → q < n → r < 8
    → ranks_text n (slice_set pieces (8 * q + r) piece) ≡ slice_set (ranks_text n pieces) q
    (rank_text (take 8 (drop (8 * q) (slice_set pieces (8 * q + r) piece))))
ranks_text-set zero q r pieces piece h k = absurd (omega arith)
ranks_text-set (suc n) zero r pieces piece h k =
    let first : 8 * 0 + r ≡ r = omega arith in
    rw first (search rules)
ranks_text-set (suc n) (suc q) r pieces piece h k =
    let s = 8 * q + r in
    let later : 8 * suc q + r ≡ 8 + s = omega arith in
    let next : 8 * suc q ≡ 8 + 8 * q = omega arith in
    let behind : drop (8 + 8 * q) (slice_set pieces (8 + s) piece)
    ≡ drop (8 * q) (slice_set (drop 8 pieces) s piece) =
    sym (drop-drop (8 * q) 8 (slice_set pieces (8 + s) piece))
    ∙ ap (drop (8 * q)) (drop-set-add 8 pieces s piece) in
    rw (later, next)
    (ap (λ l. rank_text l ∷ ranks_text n (drop 8 (slice_set pieces (8 + s) piece)))
    (take-set-le 8 pieces (8 + s) piece (omega arith))
    ∙ ap (λ l. rank_text (take 8 pieces) ∷ ranks_text n l) (drop-set-add 8 pieces s piece)
    ∙ ap (λ l. rank_text (take 8 pieces) ∷ l)
    (ranks_text-set n q r (drop 8 pieces) piece (omega arith) k)
    ∙ ap
    (λ l. rank_text (take 8 pieces)
    ∷ slice_set (ranks_text n (drop 8 pieces)) q (rank_text (take 8 l))) (sym behind))

-- the rank of the square is formed again
pub rank_set : (square q : ℕ) (piece : Piece) (pieces pieces' : List Piece) (ranks : List (List ℕ))
    (text : List ℕ) → square < 64 → q ≡ square / 8 → pieces' ≡ slice_set pieces square piece
    → ranks ≡ ranks_text 8 pieces → text ≡ rank_text (take 8 (drop (8 * q) pieces'))
    → slice_set ranks q text ≡ ranks_text 8 pieces'
rank_set square q piece pieces pieces' ranks text h e set known formed =
    let whole : square ≡ 8 * q + square % 8 = omega arith in
    let p : pieces' ≡ slice_set pieces (8 * q + square % 8) piece =
    set ∙ ap (λ s. slice_set pieces s piece) whole in
    ap (λ l. slice_set ranks q l) formed
    ∙ ap (λ l. slice_set l q (rank_text (take 8 (drop (8 * q) pieces')))) known
    ∙ ap (λ l. slice_set (ranks_text 8 pieces) q (rank_text (take 8 (drop (8 * q) l)))) p
    ∙ sym (ranks_text-set 8 q (square % 8) pieces piece (omega arith) (omega arith))
    ∙ ap (ranks_text 8) (sym p)

-- ---- all ranks

-- the ranks by their squares
pub ranks_text-eight : (pieces : List Piece)
    → rank_text (take 8 pieces) ∷ rank_text (take 8 (drop 8 pieces))
    ∷ rank_text (take 8 (drop 16 pieces)) ∷ rank_text (take 8 (drop 24 pieces))
    ∷ rank_text (take 8 (drop 32 pieces)) ∷ rank_text (take 8 (drop 40 pieces)) ∷ rank_text
    (take 8 (drop 48 pieces)) ∷ rank_text (take 8 (drop 56 pieces)) ∷ [] ≡ ranks_text 8 pieces
ranks_text-eight pieces = simp drop-drop refl

-- ranks, each with a slash after it
abbrev pub ended_ranks : List (List ℕ) → List ℕ
ended_ranks ranks = flat_map (λ rank. rank ++ ascii "/" ∷ []) ranks

-- ranks that are joined: a slash after each but the last
join-last : (ranks : List (List ℕ)) (last : List ℕ)
    → ended_ranks ranks ++ last ≡ join_with_byte (ascii "/") (ranks ++ last ∷ [])
join-last [] last = refl
join-last (rank ∷ []) last = simp append_assoc
join-last (rank ∷ next ∷ ranks) last = search (rules, append_assoc, join-last (next ∷ ranks) last)

-- the eighth rank after seven others
pub placement_ended : (ranks : List (List ℕ)) (pieces : List Piece) (other : List ℕ)
    → ranks ≡ ranks_text 8 pieces
    → ended_ranks (take 7 ranks) ++ get_or ranks 7 other ≡ placement_text pieces
unfolding placement_text
placement_ended ranks pieces other e = join-last (take 7 ranks) (get_or ranks 7 other) ∙ rw e refl
