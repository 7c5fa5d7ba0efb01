-- Structs and texts of chess have one meaning, and calls leave one result.
use Rattle.std.{proofs.{lemmas.Grind.{common_steps}, Common.{◌≡◌, ◌∙◌, ℕ, ◌<◌, List, ap, arith, inl, inr, refl, rules, sym}, Math.Logic.{∥∥₁_elim}}, specs.Prelude.{Option, Result, Ok, Err}}
use Rattle.{std.specs.Prelude.{IsTrue, option_map}, dgt_values.specs.{declared.{pieces.Piece.{Piece}, squares.Square.{Square}}, Board.{square_number}}, dgt_chess.specs.declared.fen.BadFen.{BadFen}}
use Rattle.dgt_chess.specs.declared.{pieces.{Colour.{Colour}, Man.{Man}}, possible.{Impossible.{Impossible}, Rights.{Rights}}, san_reader.BadSan.{BadSan}, state.{Move.{Move}, State.{State}}}
use Rattle.dgt_chess.specs.{Fen.{IsAnyFen, IsFirstWrong, IsShown, ParsesFen}, Possible.{RefusedAreImpossible, Refuses}, Rules.{IsAfter, LegalBy, OneAfter, OneMoveAPicture}}
use Rattle.dgt_chess.{specs.{Rules.{StatesArePossible, board}, San.{OneMoveAText, OneTextAMove, ParsesSan}}, proofs.{FenLaws.{OnePlacement, one_fen}, Same.{alike, same_move}}}
use Rattle.{dgt_chess.proofs.Unique.{same_man}, dgt_c.specs.{Chess.{HasParts, HasStatus, IsState, RefusesState, reason_status}, ChessOnce.{OneFenPut, OneFenRead, OneKind, OneLead}}}
use Rattle.dgt_c.specs.{ChessOnce.{OneMoveStruct, OnePlay, OneSanPut, OneStateStruct, OneStatus, RefusedAreNone, StatusesAre}, ChessTexts.{ReadsSan}}
use Rattle.dgt_c.{specs.{declared.header.{DgtChessMove.{DgtChessMove}, DgtChessState.{DgtChessState}}}, proofs.ChessLemmas.{OnePiece, of_state, one_move, only_state, one_state}}
use Rattle.dgt_c.proofs.{ChessLemmas.{refused_state, same_parts}, OnceLemmas.{pieces_once}}

-- ---- structs

pub one_state_struct : OneStateStruct
one_state_struct a b state x y = search rules

pub one_move_struct : OneMoveStruct
one_move_struct a b one x y = search rules

pub one_kind : OnePiece → OneKind
one_kind one said is state says =
    let same = of_state (λ it. IsTrue (is it)) said state (only_state one said state says)
    (is state) (λ h. h, λ h. h) in (same.1, same.0)

-- ---- statuses

-- a state is refused for one reason
one_reason : (why other : Impossible) (p : List Piece) (t : Colour) (r : Rights) (s : Option ℕ)
    (n : ℕ) → Refuses why p t r s n → Refuses other p t r s n → why ≡ other
one_reason Impossible.Kings Impossible.Kings p t r s n h k = refl
one_reason Impossible.Extra Impossible.Extra p t r s n h k = refl
one_reason Impossible.Pawn Impossible.Pawn p t r s n h k = refl
one_reason Impossible.Check Impossible.Check p t r s n h k = refl
one_reason Impossible.Rights Impossible.Rights p t r s n h k = refl
one_reason Impossible.Passed Impossible.Passed p t r s n h k = refl
one_reason Impossible.Number Impossible.Number p t r s n h k = refl
one_reason _ _ p t r s n h k = absurd (search rules)

reasons_once : OnePiece → (said : DgtChessState) (why other : Impossible) → RefusesState said why
    → RefusesState said other → why ≡ other
reasons_once one said why other (p, t, r, s, h, n, says, refuses)
    (p', t', r', s', h', n', says', k) =
    let same = same_parts one said _ _ _ _ _ _ _ _ _ _ _ _ says says' in
    one_reason why other p t r (option_map square_number s) n refuses
    (rw (same.pieces, same.turn, same.rights, same.passed, same.number) k)

refused_parts : (said : DgtChessState) (why : Impossible) → RefusesState said why → HasParts said
refused_parts said why h = search rules

state_parts : (said : DgtChessState) → IsState said → HasParts said
state_parts said h = search rules

module _ (one : OnePiece) (refused : RefusedAreImpossible) (possible : StatesArePossible) where
  pub refused_are_none : RefusedAreNone
  refused_are_none said why h = search (rules, refused_parts, refused_state)

  pub one_status : OneStatus
  one_status said a b (inl (is, e)) (inl (is', e')) = e ∙ sym e'
  one_status said a b (inl (is, e)) (inr (inl (why, h, e'))) =
      absurd (refused_state one refused possible said why h is)
  one_status said a b (inl (is, e)) (inr (inr (none, e'))) = absurd (none (state_parts said is))
  one_status said a b (inr (inl (why, h, e))) (inl (is, e')) =
      absurd (refused_state one refused possible said why h is)
  one_status said a b (inr (inl (why, h, e))) (inr (inl (other, h', e'))) =
      e ∙ ap reason_status (reasons_once one said why other h h') ∙ sym e'
  one_status said a b (inr (inl x)) (inr (inr y)) = absurd (y.0 (refused_parts said x.0 x.1))
  one_status said a b (inr (inr (none, e))) (inl (is, e')) = absurd (none (state_parts said is))
  one_status said a b (inr (inr x)) (inr (inl y)) = absurd (x.0 (refused_parts said y.0 y.1))
  one_status said a b (inr (inr (none, e))) (inr (inr (none', e'))) = e ∙ sym e'

only_reason : (why other : Impossible) → reason_status why ≡ reason_status other → other ≡ why
only_reason why other e = search rules

some_reason : (why : Impossible) → (0 < reason_status why) × (reason_status why < 8)
some_reason why = search rules

refuses_as : (said : DgtChessState) (why : Impossible) → HasStatus said (reason_status why)
    → RefusesState said why
refuses_as said why (inl (is, e)) = absurd (omega (arith, (some_reason why).0, e))
refuses_as said why (inr (inl (other, h, e))) = rw (only_reason why other e) at h
refuses_as said why (inr (inr (none, e))) = absurd (omega (arith, (some_reason why).1, e))

done_is : (said : DgtChessState) → HasStatus said 0 → IsState said
done_is said (inl (is, e)) = is
done_is said (inr (inl (why, h, e))) = absurd (omega (arith, e, (some_reason why).0))
done_is said (inr (inr (none, e))) = absurd (omega (arith, e))

member_is : (said : DgtChessState) → HasStatus said 8 → ¬ (HasParts said)
member_is said h = grind (arith, common_steps, some_reason)

pub statuses_are : StatusesAre
statuses_are said = search (rules, done_is, refuses_as, member_is)

-- ---- calls

-- one state follows a legal move
one_after : OneAfter → (state : State) (one : Move) (man man' : Man) (a b : State)
    → LegalBy man state (square_number one.from) (square_number one.to) one.promotion
    → LegalBy man' state (square_number one.from) (square_number one.to) one.promotion
    → IsAfter man state (square_number one.from) (square_number one.to) one.promotion a
    → IsAfter man' state (square_number one.from) (square_number one.to) one.promotion b → a ≡ b
one_after after state one man man' a b legal legal' x y =
    let men : man' ≡ man = same_man state.turn man' man (sym legal'.own ∙ legal.own) in
    let same = after man state _ _ one.promotion a b x (rw men at y) in
    alike a b same.0 same.1 same.2 same.3 same.4 same.5

pub one_play : OnePiece → OneAfter → OnePlay
one_play one after said a b move
    (s, o, man, t, says, moves, new, legal, is)
    (s', o', man', t', says', moves', new', legal', is') =
    let states : s' ≡ s = one_state one said s' s says' says in
    let ones : o' ≡ o = one_move move o' o moves' moves in
    let same : t' ≡ t = sym (one_after after s o man man' t t' legal
    (rw (states, ones) at legal') is (rw (states, ones) at is')) in
    one_state_struct a b t new (rw same at new')

pub one_lead : OnePiece → OneMoveAPicture → OneLead
one_lead one picture said codes a b (s, p, says, same, x) (s', p', says', same', y) =
    let states : s' ≡ s = one_state one said s' s says' says in
    let pieces : p' ≡ p = pieces_once one p' p (same' ∙ sym same) in
    search (rules, same_move)

-- ---- FEN

module _ (one : OnePiece) (law : OnePlacement) (refused : RefusedAreImpossible)
    (possible : StatesArePossible)
    (once : (text : List ℕ) (a b : ℕ) → IsFirstWrong IsAnyFen text a → IsFirstWrong IsAnyFen text b
    → a ≡ b)
    (never : (text : List ℕ) (at : ℕ) → IsAnyFen text → ¬ (IsFirstWrong IsAnyFen text at)) where
  -- no text is that of a state and refused too
  not_both : (text : List ℕ) (state : State) (fault : BadFen) → ParsesFen text (Ok state)
      → ¬ (ParsesFen text (Err fault))
  not_both text state (BadFen.Text field at) x y = never text at (_, _, _, _, _, _, x) y.0
  not_both text state (BadFen.Impossible why) x (p, t, r, s, h, n, y, refuses) =
      let same = one_fen law text (board state) p state.turn t state.rights r state.passed s
      state.half_moves h state.number n x y in
      ∥∥₁_elim (possible state) (λ x y. absurd x) (λ is. refused why p t r
      (option_map square_number s) n refuses
      (rw (same.pieces, same.turn, same.rights, same.square, same.number) at is))

  pub parsed_once : (text : List ℕ) (a b : Result State BadFen) → ParsesFen text a
      → ParsesFen text b → a ≡ b
  parsed_once text (Ok a) (Ok b) x y =
      let same = one_fen law text (board a) (board b) a.turn b.turn a.rights b.rights a.passed
      b.passed a.half_moves b.half_moves a.number b.number x y in
      ap Ok (alike a b same.pieces same.turn same.rights same.square same.half_moves same.number)
  parsed_once text (Ok a) (Err fault) x y = absurd (not_both text a fault x y)
  parsed_once text (Err fault) (Ok b) x y = absurd (not_both text b fault y x)
  parsed_once text (Err (BadFen.Text field at)) (Err (BadFen.Text field' at')) x y =
      let same = once text at at' x.0 y.0 in search rules
  parsed_once text (Err (BadFen.Text field at)) (Err (BadFen.Impossible why)) x
      (p, t, r, s, h, n, y, refuses) = absurd (never text at (p, t, r, s, h, n, y) x.0)
  parsed_once text (Err (BadFen.Impossible why)) (Err (BadFen.Text field at))
      (p, t, r, s, h, n, x, refuses) y = absurd (never text at (p, t, r, s, h, n, x) y.0)
  parsed_once text (Err (BadFen.Impossible why)) (Err (BadFen.Impossible other))
      (p, t, r, s, h, n, x, refuses) (p', t', r', s', h', n', y, refuses') =
      let same = one_fen law text p' p t' t r' r s' s h' h n' n y x in
      ap (λ (w : Impossible). Err (BadFen.Impossible w))
      (one_reason why other p t r (option_map square_number s) n refuses
      (rw (same.pieces, same.turn, same.rights, same.square, same.number) at refuses'))

  pub one_fen_read : OneFenRead
  one_fen_read text old a b x y (r, p, l, e) (r', p', l', e') =
      let same : r' ≡ r = parsed_once text r' r p' p in
      search (rules, one_state_struct)

shown_once : (state : State) (a b : Option Square) → IsShown state a → IsShown state b → a ≡ b
shown_once state a b p q = search rules

pub one_fen_put : OnePiece → OneFenPut
one_fen_put one said old a b (s, text, says, shown, f) (s', text', says', shown', f') =
    let states : s' ≡ s = one_state one said s' s says' says in
    search (rules, shown_once)

-- ---- SAN

pub one_san_put : OnePiece → OneTextAMove → OneSanPut
one_san_put one law said move old a b (s, o, text, says, moves, is, e)
    (s', o', text', says', moves', is', e') =
    let states : s' ≡ s = one_state one said s' s says' says in
    let ones : o' ≡ o = one_move move o' o moves' moves in
    search rules

pub strict_once : OneMoveAText → (state : State) (text : List ℕ) (a b : Result Move BadSan)
    → ParsesSan state text a → ParsesSan state text b → a ≡ b
strict_once law state text (Ok a) (Ok b) x y =
    let same = law state text _ _ _ _ a.promotion b.promotion a.from.small a.to.small b.from.small
    b.to.small x y in
    ap Ok (same_move a b same.0 same.1 same.2)
strict_once law state text (Ok a) (Err e) x y =
    absurd (y.0 _ _ a.promotion a.from.small a.to.small x)
strict_once law state text (Err e) (Ok b) x y =
    absurd (x.0 _ _ b.promotion b.from.small b.to.small y)
strict_once law state text (Err a) (Err b) x y = search rules

pub one_san_read : (Parses : State → List ℕ → Result Move BadSan → Type 0) → OnePiece → OneStatus
    → ((state : State) (text : List ℕ) (a b : Result Move BadSan) → Parses state text a
    → Parses state text b → a ≡ b) → (said : DgtChessState) (text : List ℕ)
    (old a b : DgtChessMove) (x y : ℕ) → ReadsSan Parses said text old a x
    → ReadsSan Parses said text old b y → (a ≡ b) × (x ≡ y)
one_san_read Parses one status law said text old a b x y
    (inl (s, r, says, p, l, e)) (inl (s', r', says', p', l', e')) =
    let states : s' ≡ s = one_state one said s' s says' says in
    let same : r' ≡ r = law s text r' r (rw states at p') p in
    search (rules, one_move_struct)
one_san_read Parses one status law said text old a b x y
    (inl (s, r, says, p, l, e)) (inr (none, has, same)) = absurd (none (s, says))
one_san_read Parses one status law said text old a b x y
    (inr (none, has, same)) (inl (s, r, says, p, l, e)) = absurd (none (s, says))
one_san_read Parses one status law said text old a b x y
    (inr (none, has, same)) (inr (none', has', same')) =
    (same ∙ sym same', status said x y has has')
