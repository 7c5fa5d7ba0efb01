-- The text of a position: eight ranks, from rank 8 down, with a slash between two. A rank consists
-- of letters for pieces and digits for runs of empty squares, eight squares in all.
use Prim.Native.Char.{code as ascii}
use Rattle.std.specs.Prelude.{◌≡◌, ◌≢◌, ℕ, zero, suc, ◌+◌, ◌<◌, ◌≤◌, ◌⊎◌, ◌==◌, if◌then◌else◌}
use Rattle.std.specs.Prelude.{count_by, List, [], ◌∷◌, ◌++◌, take, drop, length, replicate}
use Rattle.std.specs.Prelude.{slice_index, Result, MatchResult}
use Rattle.std.specs.Char.{is_ascii_digit, IsAsciiDigit}
use Rattle.std.specs.List.{join_with_byte}
use Rattle.dgt_values.specs.declared.pieces.Piece.{Piece}
use Rattle.dgt_values.specs.declared.positions.Position.{Position}
use Rattle.dgt_values.specs.declared.refusals.BadPlacement.{BadPlacement}
use Rattle.dgt_values.specs.Board.{piece_letter, pieces_of}

-- a digit from 1 to 8, for a run of empty squares
pub record IsEmptyRun (byte : ℕ) (squares : List Piece) : Type 0 where
  pub count : ℕ
  pub at_least_one : 1 ≤ count
  pub at_most_eight : count ≤ 8
  pub digit : byte ≡ ascii "0" + count
  pub all_empty : squares ≡ replicate count Piece.Empty

-- a letter, for its piece
pub record IsPieceLetter (byte : ℕ) (squares : List Piece) : Type 0 where
  pub piece : Piece
  pub not_empty : piece ≢ Piece.Empty
  pub letter : byte ≡ piece_letter piece
  pub one_square : squares ≡ piece ∷ []

-- the squares of a byte of a rank
abbrev pub MeansSquares : ℕ → List Piece → Type 0
MeansSquares byte squares = IsEmptyRun byte squares ⊎ IsPieceLetter byte squares

-- the bytes of a rank and its squares
abbrev pub IsRank : List ℕ → List Piece → Type 0
IsRank [] squares = squares ≡ []
IsRank (byte ∷ bytes) squares =
    (first rest : List Piece) × MeansSquares byte first × IsRank bytes rest
    × (squares ≡ first ++ rest)

-- the texts of some ranks, each of eight squares, and the pieces on all of them
abbrev pub AreRanks : List (List ℕ) → List Piece → Type 0
AreRanks [] pieces = pieces ≡ []
AreRanks (rank ∷ ranks) pieces =
    (squares rest : List Piece) × (length squares ≡ 8) × IsRank rank squares
    × AreRanks ranks rest × (pieces ≡ squares ++ rest)

-- the text is accepted, and this is its position
pub record IsPlacement (text : List ℕ) (pieces : List Piece) : Type 0 where
  pub ranks : List (List ℕ)
  pub eight : length ranks ≡ 8
  pub joined : text ≡ join_with_byte (ascii "/") ranks
  pub each : AreRanks ranks pieces

-- the text begins an accepted one
abbrev pub BeginsPlacement : List ℕ → Type 0
BeginsPlacement text = (more : List ℕ) × (pieces : List Piece) × IsPlacement (text ++ more) pieces

-- The text up to this offset begins an accepted one, and with the byte there it no longer does. At
-- the text's end the text is only too short.
pub record IsFirstBadOffset (text : List ℕ) (at : ℕ) : Type 0 where
  pub within : at ≤ length text
  pub begins : BeginsPlacement (take at text)
  pub no_longer : at < length text → ¬ (BeginsPlacement (take (at + 1) text))
  pub too_short : at ≡ length text → (pieces : List Piece) → ¬ (IsPlacement text pieces)

-- the result is the position of the text, or its first wrong offset
abbrev pub ParsesPlacement : List ℕ → Result Position BadPlacement → Type 0
ParsesPlacement text r = MatchResult r
    (λ position. IsPlacement text (pieces_of position))
    (λ e. IsFirstBadOffset text e.at)

-- how many bytes of a text are digits
abbrev pub digit_count : List ℕ → ℕ
digit_count text = count_by is_ascii_digit text

-- no two digits are adjacent
abbrev pub DigitsApart : List ℕ → Type 0
DigitsApart text =
    (k : ℕ) → IsAsciiDigit (slice_index text k) → ¬ (IsAsciiDigit (slice_index text (k + 1)))

-- the digit for a run of empty squares, if there is one
abbrev pub run_text : ℕ → List ℕ
run_text empty = if empty == 0 then [] else (ascii "0" + empty) ∷ []

-- the pieces of a rank after a run of empty squares
abbrev pub rank_text_after : ℕ → List Piece → List ℕ
rank_text_after empty [] = run_text empty
rank_text_after empty (Piece.Empty ∷ pieces) = rank_text_after (empty + 1) pieces
rank_text_after empty (piece ∷ pieces) =
    run_text empty ++ piece_letter piece ∷ rank_text_after 0 pieces

-- the texts of this number of ranks
abbrev pub ranks_text : ℕ → List Piece → List (List ℕ)
ranks_text zero pieces = []
ranks_text (suc n) pieces = rank_text_after 0 (take 8 pieces) ∷ ranks_text n (drop 8 pieces)

-- the text with the fewest digits
unfoldable pub placement_text : List Piece → List ℕ
placement_text pieces = join_with_byte (ascii "/") (ranks_text 8 pieces)
