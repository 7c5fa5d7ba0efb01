-- How a text continues to the end of a placement, byte by byte: this many ranks follow this one,
-- and this many squares of this rank are left.
use Prim.Native.Char.{code as ascii}
use Rattle.std.proofs.{Common.{◌≡◌, ℕ, suc, ◌+◌, ◌<◌, ◌⊎◌, inl, inr, refl, sym, ap, ◌∙◌, arith, List, [], ◌∷◌, ◌++◌, length, append_assoc, length-append, rules}, lemmas.List.{append-nil}}
use Rattle.{std.specs.{List.{join_with_byte}, Prelude.{◌≢◌}}, dgt_values.specs.{Board.{piece_letter}, Placement.{MeansSquares, IsRank, AreRanks, IsPlacement}, declared.pieces.Piece.{Piece}}}
use Rattle.dgt_values.{specs.declared.pieces.Piece.TheVariants.{Empty}, proofs.PieceCodes.{letter_one}}

-- letters are above the slash and the digits
pub letter_above : (piece : Piece) → piece ≢ Empty → ascii "9" < piece_letter piece
letter_above Empty h = absurd (h refl)
letter_above _ h = omega arith

-- a byte that means squares isn't a slash
pub above_slash : (byte : ℕ) (squares : List Piece) → MeansSquares byte squares → ascii "/" < byte
above_slash byte squares h2 = search (rules, letter_above)

-- a byte means at most one list of squares
pub means_one : (byte : ℕ) (a b : List Piece) → MeansSquares byte a → MeansSquares byte b → a ≡ b
means_one byte a b h3 h4 = search (rules, letter_above, letter_one)

-- after a full rank a slash begins the next one
pub record IsSlash (byte ranks left ranks' left' : ℕ) (first : List Piece) : Type 0 where
  pub slash : byte ≡ ascii "/"
  pub full : left ≡ 0
  pub one_less : ranks ≡ suc ranks'
  pub eight : left' ≡ 8
  pub none : first ≡ []

-- more squares of this rank
pub record AreSquares (byte ranks left ranks' left' : ℕ) (first : List Piece) : Type 0 where
  pub same_rank : ranks' ≡ ranks
  pub fewer : left ≡ length first + left'
  pub stands : MeansSquares byte first

-- the effect of a byte: from this many ranks and squares left to those left then, with these
-- squares
abbrev pub Steps : ℕ → ℕ → ℕ → ℕ → ℕ → List Piece → Type 0
Steps byte ranks left ranks' left' first =
    IsSlash byte ranks left ranks' left' first ⊎ AreSquares byte ranks left ranks' left' first

-- the text ends the placement, and these are the pieces that it adds
abbrev pub Finishes : List ℕ → ℕ → ℕ → List Piece → Type 0
Finishes [] ranks left pieces = (ranks ≡ 0) × (left ≡ 0) × (pieces ≡ [])
Finishes (byte ∷ bytes) ranks left pieces =
    (ranks' left' : ℕ) × (first rest : List Piece) × Steps byte ranks left ranks' left' first
    × Finishes bytes ranks' left' rest × (pieces ≡ first ++ rest)

-- a byte has at most one effect
pub record SameStep (ranks left ranks' left' : ℕ) (first first' : List Piece) : Type 0 where
  pub ranks_same : ranks ≡ ranks'
  pub left_same : left ≡ left'
  pub first_same : first ≡ first'

-- two steps of a byte are equal
pub steps_one : (byte n s n1 s1 n2 s2 : ℕ) (a b : List Piece) → Steps byte n s n1 s1 a
    → Steps byte n s n2 s2 b → SameStep n1 s1 n2 s2 a b
steps_one byte n s n1 s1 n2 s2 a b h9 h10 = search (rules, above_slash, means_one)

-- a text ends a placement with at most one list of pieces
pub finishes_one : (text : List ℕ) (n s : ℕ) (a b : List Piece) → Finishes text n s a
    → Finishes text n s b → a ≡ b
finishes_one [] n s a b h k = h.2 ∙ sym k.2
finishes_one (byte ∷ text) n s a b (n1, s1, first, rest, step, more, is)
    (n2, s2, first', rest', step', more', is') =
    let same = steps_one byte n s n1 s1 n2 s2 first first' step step' in
    let over : Finishes text n1 s1 rest' = rw (same.ranks_same, same.left_same) more' in
    search (rules, finishes_one text n1 s1 rest rest' more over)

-- a rank, and the text after it
rank_finishes : (bytes : List ℕ) (squares : List Piece) → IsRank bytes squares
    → (n : ℕ) (more : List ℕ) (rest : List Piece)
    → Finishes more n 0 rest → Finishes (bytes ++ more) n (length squares) (squares ++ rest)
rank_finishes [] squares h n more rest f = rw h f
rank_finishes (byte ∷ bytes) squares (first, others, stands, h, is) n more rest f =
    search (rules, length-append, append_assoc, rank_finishes bytes others h n more rest f)

-- ranks that are joined by slashes
ranks_finish : (ranks : List (List ℕ)) (rank : List ℕ) (pieces : List Piece)
    → AreRanks (rank ∷ ranks) pieces
    → Finishes (join_with_byte (ascii "/") (rank ∷ ranks)) (length ranks) 8 pieces
ranks_finish [] rank pieces (squares, rest, eight, h, none, is) =
    let f = rank_finishes rank squares h 0 [] [] (refl, refl, refl) in
    search (rules, append-nil)
ranks_finish (next ∷ ranks) rank pieces (squares, rest, eight, h, after, is) =
    search (rules, rank_finishes, ranks_finish ranks next rest after)

-- the rest of a placement in parts: this rank's text and the texts of the others
record Parts (text : List ℕ) (n s : ℕ) (pieces : List Piece) : Type 0 where
  rank : List ℕ
  ranks : List (List ℕ)
  squares : List Piece
  rest : List Piece
  so_many : length ranks ≡ n
  joined : text ≡ join_with_byte (ascii "/") (rank ∷ ranks)
  is_rank : IsRank rank squares
  so_long : length squares ≡ s
  others : AreRanks ranks rest
  whole : pieces ≡ squares ++ rest

-- a text that ends a placement can be divided
parts : (text : List ℕ) (n s : ℕ) (pieces : List Piece) → Finishes text n s pieces
    → Parts text n s pieces
parts [] n s pieces h = record {
  rank = [];
  ranks = [];
  squares = [];
  rest = [];
  so_many = sym h.0;
  joined = refl;
  is_rank = refl;
  so_long = sym h.1;
  others = refl;
  whole = h.2;
}
parts (byte ∷ bytes) n s pieces (n', s', first, rest, inl slash, h, is) =
    let after = parts bytes n' s' rest h in
    let eight = after.so_long ∙ slash.eight in
    record {
      rank = [];
      ranks = after.rank ∷ after.ranks;
      squares = [];
      rest = rest;
      so_many = ap suc after.so_many ∙ sym slash.one_less;
      joined = rw (slash.slash, ← after.joined) refl;
      is_rank = refl;
      so_long = sym slash.full;
      others = (after.squares, after.rest, eight, after.is_rank, after.others, after.whole);
      whole = is ∙ ap (λ l. l ++ rest) slash.none;
    }
parts (byte ∷ bytes) n s pieces (n', s', first, rest, inr more, h, is) =
    let after = parts bytes n' s' rest h in
    record {
      rank = byte ∷ after.rank;
      ranks = after.ranks;
      squares = first ++ after.squares;
      rest = after.rest;
      so_many = after.so_many ∙ more.same_rank;
      joined = search rules;
      is_rank = (first, after.squares, more.stands, after.is_rank, refl);
      so_long = omega (arith, length-append first after.squares, after.so_long, more.fewer);
      others = after.others;
      whole = cc (append_assoc first after.squares after.rest);
    }

-- eight ranks that are joined by slashes
from_ranks : (text : List ℕ) (pieces : List Piece) (ranks : List (List ℕ)) → length ranks ≡ 8
    → text ≡ join_with_byte (ascii "/") ranks → AreRanks ranks pieces → Finishes text 7 8 pieces
from_ranks text pieces [] eight joined each = absurd (omega (arith, eight))
from_ranks text pieces (rank ∷ ranks) eight joined each = search (rules, ranks_finish)

-- the counters say the same as the definition
pub placement_finishes : (text : List ℕ) (pieces : List Piece) → IsPlacement text pieces
    → Finishes text 7 8 pieces
placement_finishes text pieces h = from_ranks text pieces h.ranks h.eight h.joined h.each

-- a text that is finished according to the counters is a placement
pub finishes_placement : (text : List ℕ) (pieces : List Piece) → Finishes text 7 8 pieces
    → IsPlacement text pieces
finishes_placement text pieces h =
    let all = parts text 7 8 pieces h in
    record {
      ranks = all.rank ∷ all.ranks;
      eight = ap suc all.so_many;
      joined = all.joined;
      each = (all.squares, all.rest, all.so_long, all.is_rank, all.others, all.whole);
    }
