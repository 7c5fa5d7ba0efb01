-- A text has one lenient reading, and what is read strictly is read leniently as the same move.
use Rattle.{std.{proofs.{Common.{◌≡◌, ℕ, ◌<◌, ◌∙◌, List, ap, sym, rules}}, specs.Prelude.{Option, Result, Ok, Err}}}
use Rattle.{dgt_values.specs.Board.{square_number}, dgt_chess.specs.declared.{pieces.Man.{Man}, san_reader.BadSan.{BadSan}, state.{Move.{Move}, State.{State}}}}
use Rattle.dgt_chess.{specs.San.{Fits, FitsOnly, FitsSeveral, OneLenientReading, StrictIsLenient}, proofs.{Same.{same_move}, SanLaws.{one_fits, san_fits}}}

some_fits : (state : State) (text : List ℕ) (to : ℕ) (promotion : Option Man)
    → FitsSeveral state to promotion text
    → ((from : ℕ) → from < 64 → to < 64 → ¬ (Fits state from to promotion text)) → ⊥
unfolding FitsSeveral
some_fits state text to promotion h none = none h.0 h.2 h.4 h.6

several : (state : State) (text : List ℕ) (to : ℕ) (promotion : Option Man) (only : ℕ)
    → FitsSeveral state to promotion text
    → ((from : ℕ) → from < 64 → to < 64 → Fits state from to promotion text → from ≡ only) → ⊥
unfolding FitsSeveral
several state text to promotion only h law = h.5 (law h.0 h.2 h.4 h.6 ∙ sym (law h.1 h.3 h.4 h.7))

-- a move that fits, if each that fits is from its square
only : (state : State) (text : List ℕ) (one : Move) (r : Result Move BadSan)
    → Fits state (square_number one.from) (square_number one.to) one.promotion text
    → ((from to : ℕ) (promotion : Option Man) → from < 64 → to < 64
    → Fits state from to promotion text → from ≡ square_number one.from)
    → FitsOnly state text r → r ≡ Ok one
only state text one (Ok two) fits law h =
    let same = h.1 _ _ _ one.from.small one.to.small fits in
    ap Ok (same_move two one (sym same.0) (sym same.1) (sym same.2))
only state text one (Err BadSan.Ambiguous) fits law h =
    absurd (several state text h.0 h.1 _ h.2 (λ from. law from h.0 h.1))
only state text one (Err BadSan.NotSan) fits law h =
    absurd (h.0 _ _ _ one.from.small one.to.small fits)
only state text one (Err BadSan.NoMove) fits law h =
    absurd (h.0 _ _ _ one.from.small one.to.small fits)

pub one_reading : OneLenientReading
one_reading state text one other first second = search (rules, only, some_fits)

pub strict_lenient : StrictIsLenient
strict_lenient state text one r h k = search (rules, only, san_fits, one_fits)
