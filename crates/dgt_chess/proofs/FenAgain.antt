-- States with the same parts and the same legal moves have the same written text.
use Rattle.{std.{proofs.Common.{rules, ◌≡◌, ◌∙◌, ℕ, ◌<◌, ◌^◌, List, inl, inr, subst, sym}, specs.Prelude.{None, Result, Ok}}, dgt_chess.specs.declared.{fen.BadFen.{BadFen}, pieces.Man.{Man}}}
use Rattle.dgt_chess.specs.{declared.state.State.{State}, Attacks.{piece_at, piece_of}, Rules.{CanGo, LegalBy, Moves, PawnMoves, TakesPassing, board, passed}}
use Rattle.dgt_chess.specs.Fen.{CanTakePassing, ParsesFen, ReadsBack, SameBut}
use Rattle.dgt_chess.{specs.Fen.{SameMoves, WritesFen}, proofs.{FenLaws.{Accepted, written_fen}, SameMoves.{SameParts, along, back, legal_to, same_parts}, Unique.{same_man}}}

-- A pawn captures in passing on another file than its own. So it does in a state with the same
-- parts in which this move is legal, too.
takes_there : (a b : State) → SameParts a b → (from to : ℕ) → LegalBy Man.Pawn a from to None
    → TakesPassing (board a) a.turn (passed a) from to
    → PawnMoves (board b) b.turn (passed b) from to
    → TakesPassing (board b) b.turn (passed b) from to
takes_there a b same from to legal takes moves = search rules

pub other_way : (a b : State) → SameMoves a b → SameMoves b a
other_way a b moves from to promotion small small' =
    let both = moves from to promotion small small' in (both.1, both.0)

abbrev pub GoesToo : State → State → Type 0
GoesToo a b = (from to : ℕ) → from < 64 → to < 64 → CanGo a from to → CanGo b from to

pub goes_too : (a b : State) → SameMoves a b → GoesToo a b
unfolding CanGo
goes_too a b moves from to small small' (promotion, legal) =
    (promotion, (moves from to promotion small small').0 legal)

pub record Takes (a b : State) : Type 0 where
  pub can : CanTakePassing b
  pub square : passed a ≡ passed b

pub can_take : (a b : State) → SameParts a b → GoesToo a b → CanTakePassing a → Takes a b
unfolding CanTakePassing CanGo
can_take a b same moves (from, to, small, small', legal, takes) =
    let there = moves from to small small' (None, (Man.Pawn, legal)) in
    let own = along (λ l t. piece_at l from ≡ piece_of t Man.Pawn) (board a) (board b) a.turn b.turn
    same.pieces same.turn legal.own in
    let man : there.1.0 ≡ Man.Pawn = same_man b.turn there.1.0 Man.Pawn (sym there.1.1.own ∙ own) in
    let by : Moves Man.Pawn b from to =
    subst (λ (m : Man). Moves m b from to) man there.1.1.moves in
    let passing = takes_there a b same from to legal takes by in
    let square : passed a ≡ passed b = takes.0 ∙ sym passing.0 in
    let legal' = legal_to a b same (λ _. square) Man.Pawn from to None small small' legal in
    record { can = (from, to, small, small', legal', passing); square = square }

pub written_alike : (first second : State) (text : List ℕ) → SameBut first second
    → SameMoves first second → WritesFen first text → WritesFen second text
written_alike a b text same moves (shown, inl (can, is_passed), is) =
    let takes = can_take a b (same_parts a b same) (goes_too a b moves) can in search rules
written_alike a b text same moves (shown, inr (cannot, is_none), is) =
    let cannot' : ¬ (CanTakePassing b) = λ can.
    let again = goes_too b a (other_way a b moves) in
    cannot (can_take b a (back a b (same_parts a b same)) again can).can in search rules

pub read_back_parsed : Accepted → (state : State) (text : List ℕ) (result : Result State BadFen)
    → state.half_moves < 2 ^ 16 → state.number < 2 ^ 16 → WritesFen state text
    → ReadsBack state result → ParsesFen text result
read_back_parsed law state text result few small writes reads = search (rules, written_fen)

pub read_back_written : (state new : State) (text : List ℕ) → WritesFen state text
    → ReadsBack state (Ok new) → WritesFen new text
read_back_written state new text writes reads = written_alike state new text reads.0 reads.1 writes
