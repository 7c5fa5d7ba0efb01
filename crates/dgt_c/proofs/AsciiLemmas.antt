-- Placements are ASCII, so a text is wrong from its first other byte on.
use Prim.Native.Char.{code as ascii}
use Rattle.std.proofs.{Common.{◌≡◌, ℕ, ◌+◌, ◌<◌, ◌≤◌, List, [], ◌∷◌, length, take, lit<, arith, rules, subst, sym}, lemmas.Bool.{cases_lt}}
use Rattle.std.proofs.lemmas.{List.{append-nil, get_or-take, get_or_append_left, get_or_past, length-take, length-take-le, take-take, take_all}, Str.{IsAscii-append}}
use Rattle.{std.{proofs.lemmas.Str.Ascii.{IsAscii-cons, IsAscii-nil}, specs.{List.{join_with_byte}, Prelude.{slice_index}, Str.{IsAscii}}}, dgt_values.specs.Board.{piece_letter}}
use Rattle.dgt_values.specs.{Placement.{AreRanks, BeginsPlacement, IsFirstBadOffset, IsPlacement, IsRank, MeansSquares}, declared.pieces.Piece.{Piece, TheVariants.{Empty}}}

letter-ascii : (piece : Piece) → piece_letter piece < 128
letter-ascii Empty = lit< tt
letter-ascii _ = lit< tt

byte-ascii : (byte : ℕ) (squares : List Piece) → MeansSquares byte squares → byte < 128
byte-ascii byte squares h2 = search (rules, letter-ascii)

rank-ascii : (rank : List ℕ) (squares : List Piece) → IsRank rank squares → IsAscii rank
rank-ascii [] squares h = IsAscii-nil
rank-ascii (byte ∷ bytes) squares (first, rest, means, is_rank, same) =
    IsAscii-cons byte bytes (byte-ascii byte first means) (rank-ascii bytes rest is_rank)

ranks-ascii : (ranks : List (List ℕ)) (pieces : List Piece) → AreRanks ranks pieces →
    IsAscii (join_with_byte (ascii "/") ranks)
ranks-ascii [] pieces h = IsAscii-nil
ranks-ascii (rank ∷ []) pieces (squares, rest, eight, is_rank, others, same) =
    rank-ascii rank squares is_rank
ranks-ascii (rank ∷ next ∷ ranks) pieces (squares, rest, eight, is_rank, others, same) =
    let behind = ranks-ascii (next ∷ ranks) rest others in
    IsAscii-append rank (ascii "/" ∷ join_with_byte (ascii "/") (next ∷ ranks))
    (rank-ascii rank squares is_rank)
    (IsAscii-cons (ascii "/") (join_with_byte (ascii "/") (next ∷ ranks)) (lit< tt) behind)

pub placement_ascii : (text : List ℕ) (pieces : List Piece) → IsPlacement text pieces → IsAscii text
placement_ascii text pieces is = subst IsAscii (sym is.joined) (ranks-ascii is.ranks pieces is.each)

-- bytes up to the first that isn't ASCII
pub ascii_prefix : (text : List ℕ) (end : ℕ) → end ≤ length text
    → ((k : ℕ) → k < end → slice_index text k < 128) → IsAscii (take end text)
ascii_prefix text end h low =
    search (rules, cases_lt, get_or-take, length-take-le, get_or_past, lit<)

-- no placement begins with bytes up to one that isn't ASCII
no_longer : (text : List ℕ) (at : ℕ) → at < length text → 128 ≤ slice_index text at
    → ¬ (BeginsPlacement (take (at + 1) text))
no_longer text at h top (more, pieces, placed) =
    search (rules, length-take, get_or_append_left, get_or-take, ranks-ascii)

-- a placement and then a byte that isn't ASCII
pub bad_behind : (text : List ℕ) (end : ℕ) (pieces : List Piece) → end < length text
    → 128 ≤ slice_index text end → IsPlacement (take end text) pieces → IsFirstBadOffset text end
bad_behind text end pieces h top placed = record {
  within = omega (arith, h);
  begins = ([], pieces, rw (append-nil (take end text)) placed);
  no_longer = λ within. no_longer text end h top;
  too_short = λ same. absurd (omega (arith, h, same));
}

-- a part up to a byte that isn't ASCII, or up to the end, that is wrong makes the whole wrong
pub bad_in_prefix : (text : List ℕ) (end at : ℕ) → end ≤ length text
    → (end < length text → 128 ≤ slice_index text end) → IsFirstBadOffset (take end text) at
    → IsFirstBadOffset text at
bad_in_prefix text end at h top bad =
    let long : length (take end text) ≡ end = length-take-le end text h in
    let within : at ≤ end = omega (arith, bad.within, long) in
    record {
      within = omega (arith, within, h);
      begins = rw (take-take at end text within) at bad.begins;
      no_longer = search (rules, cases_lt, take-take, no_longer);
      too_short = λ all.
          let whole : take end text ≡ text = take_all end text (omega (arith, all, within)) in
          let last : at ≡ length (take end text) = omega (arith, all, within, h, long) in
          rw whole at (bad.too_short last);
    }
