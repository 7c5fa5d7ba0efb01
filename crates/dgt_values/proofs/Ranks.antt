-- The ranks of a placement, one after another.
use Prim.Native.Char.{code as ascii}
use Rattle.std.proofs.{Common.{◌≡◌, ℕ, zero, suc, ◌+◌, ◌-◌, ◌*◌, ◌<◌, sym, ap, ◌∙◌, arith, List, [], ◌∷◌, ◌++◌, take, drop, append_assoc}, lemmas.List.{append-nil, drop-drop}}
use Rattle.{std.specs.List.{join_with_byte}, dgt_values.specs.{Placement.{placement_text, rank_text_after, ranks_text}, declared.pieces.Piece.{Piece}}}

-- this many ranks, each after a slash
abbrev pub following_ranks : ℕ → List Piece → List ℕ
following_ranks zero pieces = []
following_ranks (suc n) pieces =
    ascii "/" ∷ (rank_text_after 0 (take 8 pieces) ++ following_ranks n (drop 8 pieces))

-- the joined ranks are the first one and those that follow it
join-ranks_text : (n : ℕ) (pieces : List Piece)
    → join_with_byte (ascii "/") (ranks_text (suc n) pieces)
    ≡ rank_text_after 0 (take 8 pieces) ++ following_ranks n (drop 8 pieces)
join-ranks_text zero pieces = sym (append-nil (rank_text_after 0 (take 8 pieces)))
join-ranks_text (suc n) pieces =
    ap (λ rest. rank_text_after 0 (take 8 pieces) ++ ascii "/" ∷ rest)
    (join-ranks_text n (drop 8 pieces))

-- the text of a position is its first rank and the seven that follow it
pub first_rank : (pieces : List Piece)
    → rank_text_after 0 (take 8 pieces) ++ following_ranks 7 (drop 8 pieces) ≡ placement_text pieces
unfolding placement_text
first_rank pieces = sym (join-ranks_text 7 pieces)

-- one more rank is written, after a slash
one_more_slash : (n : ℕ) (text : List ℕ) (pieces : List Piece)
    → text ++ following_ranks (suc n) pieces
    ≡ ((text ++ ascii "/" ∷ []) ++ rank_text_after 0 (take 8 pieces))
    ++ following_ranks n (drop 8 pieces)
one_more_slash n text pieces = simp append_assoc

-- the same, by the number of the rank
pub one_more_rank : (i : ℕ) (text : List ℕ) (pieces : List Piece) → i < 8
    → text ++ following_ranks (8 - i) (drop (8 * i) pieces)
    ≡ ((text ++ ascii "/" ∷ []) ++ rank_text_after 0 (take 8 (drop (8 * i) pieces)))
    ++ following_ranks (8 - (i + 1)) (drop (8 * (i + 1)) pieces)
one_more_rank i text pieces h =
    let now : 8 - i ≡ suc (7 - i) = omega arith in
    let next : 8 - (i + 1) ≡ 7 - i = omega arith in
    let on : drop (8 * (i + 1)) pieces ≡ drop 8 (drop (8 * i) pieces) =
    ap (λ k. drop k pieces) (let e : 8 * (i + 1) ≡ 8 * i + 8 = omega arith in e)
    ∙ sym (drop-drop 8 (8 * i) pieces) in
    rw (now, next, on) (one_more_slash (7 - i) text (drop (8 * i) pieces))
