-- Writes one more piece of a rank.
use Rattle.std.{proofs.{Common.{◌≡◌, ℕ, ◌+◌, ◌<◌, refl, List, [], ◌∷◌, ◌++◌, length, drop, get_or, append_assoc, add-one, drop-cons, arith, rules}, lemmas.Grind.{common_steps}}, specs.Prelude.{◌≢◌}}
use Rattle.dgt_values.specs.{Board.{piece_letter}, Placement.{rank_text_after, run_text}, declared.pieces.Piece.{Piece, TheVariants.{Empty}}}

-- the text of a rank from a piece on
pub text_after_piece : (piece : Piece) (empty : ℕ) (pieces : List Piece) → piece ≢ Empty
    → rank_text_after empty (piece ∷ pieces)
    ≡ run_text empty ++ piece_letter piece ∷ rank_text_after 0 pieces
text_after_piece piece empty pieces h = search rules

-- an empty square makes the run longer
pub one_more_empty : (rank : List Piece) (i empty : ℕ) → i < length rank
    → get_or rank i Empty ≡ Empty
    → rank_text_after empty (drop i rank) ≡ rank_text_after (empty + 1) (drop (i + 1) rank)
one_more_empty rank i empty h e = rw (add-one i, drop-cons rank i Empty h, e) refl

-- a piece ends the run
pub one_more_piece : (rank : List Piece) (i empty : ℕ) (text : List ℕ) → i < length rank
    → get_or rank i Empty ≢ Empty
    → text ++ rank_text_after empty (drop i rank)
    ≡ ((text ++ run_text empty) ++ piece_letter (get_or rank i Empty) ∷ [])
    ++ rank_text_after 0 (drop (i + 1) rank)
one_more_piece rank i empty text h ne =
    grind (arith, common_steps, add-one, drop-cons, text_after_piece, append_assoc)
