-- Squares are reported in the order of their numbers.
use Rattle.std.proofs.{Common.{arith, ◌≡◌, refl, ℕ, zero, suc, ◌+◌, ◌<◌, ◌≤◌, List, [], ◌∷◌, ◌++◌, Some, Bool, true, false, cond, rules}, lemmas.Bool.{eqb-true, Decides.{eqb_tells}}}
use Rattle.{std.specs.{List.{range_with_len}, Prelude.{filter, map, slice_get}}, dgt_values.{specs.declared.pieces.Piece.{Piece}, proofs.PieceCodes.{same_code}}}
use Rattle.{dgt_message.specs.{Clock.{ClockState}, Content.{Content, clock_message}}, dgt_board.specs.Sending.{clock_news, differs, every_square, field_of, next_message, piece_on, unreported_squares}}
use Rattle.dgt_board.specs.State.{BoardState, updates}

-- no number of a range before the first that passes a test passes it
before_first : (test : ℕ → Bool) (a n at : ℕ) (rest : List ℕ)
    → filter test (range_with_len a n) ≡ at ∷ rest → (k : ℕ) → a ≤ k → k < at → test k ≡ false
before_first test a zero at rest e k from below = cc
before_first test a (suc n) at rest e k from below =
    search (rules, arith, eqb_tells k a, before_first test (a + 1) n at rest)

-- the same of the squares that an update mode has yet to report
before_square : (asks : Bool) (test : ℕ → Bool) (at lower : ℕ) (rest : List ℕ)
    → cond asks (filter test every_square) [] ≡ at ∷ rest → lower < at → test lower ≡ false
unfolding every_square
before_square true test at lower rest e below =
    before_first test 0 64 at rest e lower (omega arith) below
before_square false test at lower rest e below = cc

-- a square that doesn't differ has the piece that was reported
same_piece : (board : BoardState) (square : ℕ) → differs board square ≡ false
    → piece_on board.squares square ≡ piece_on board.reported_squares square
same_piece board square same = search (rules, same_code, eqb-true)

-- the message of the clock isn't a field update
no_field : (owed : Bool) (clock : ClockState) (square : ℕ) (piece : Piece)
    → slice_get (cond owed (clock_message clock ∷ []) []) 0 ≡ Some (Content.field square piece) → ⊥
no_field owed clock square piece e = search rules

-- no square before the one of the next field differs
pub lower_same : (board : BoardState) (square lower : ℕ) (piece : Piece) → board.owed ≡ []
    → next_message board ≡ Some (Content.field square piece) → lower < square
    → piece_on board.squares lower ≡ piece_on board.reported_squares lower
lower_same board square lower piece none next below =
    go (unreported_squares board) refl (rw none at next)
  where
    go : (squares : List ℕ) → unreported_squares board ≡ squares
        → slice_get (map (field_of board) squares ++ clock_news board) 0
        ≡ Some (Content.field square piece)
        → piece_on board.squares lower ≡ piece_on board.reported_squares lower
    go [] e next = absurd (no_field board.times_owed board.clock square piece next)
    go (at ∷ rest) e next =
        let here : at ≡ square = cc in
        same_piece board lower
        (before_square (updates board.mode) (differs board) at lower rest e (omega (arith, here)))
