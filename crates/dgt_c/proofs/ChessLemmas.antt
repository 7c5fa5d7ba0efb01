-- A struct of C describes one state or one move of chess.
use Rattle.std.{proofs.{Common.{◌≡◌, ◌↔◌, ◌∙◌, ℕ, ◌<◌, List, ap, arith, map, refl, rules, subst, sym}, Math.Logic.{∥∥₁_elim}}, specs.Prelude.{All, Bool, false, IsTrue, Option}}
use Rattle.{std.specs.Prelude.{Some, None}, dgt_values.specs.{declared.{pieces.Piece.{Piece}, squares.Square.{Square}}, Board.{piece_code, square_number}}}
use Rattle.dgt_chess.specs.{declared.{pieces.{Colour.{Colour}, Man.{Man}}, possible.{Impossible.{Impossible}, Rights.{Rights}}, state.{Move.{Move}, State.{State}}}, Possible.{RefusedAreImpossible}}
use Rattle.{dgt_chess.{proofs.Same.{same_move, same_position, same_square, same_state}, specs.Rules.{Legal, Reaches, StatesArePossible}}, dgt_c.specs.Chess.{IsOnlyMove, IsOnlyState, IsState}}
use Rattle.dgt_c.specs.{Chess.{IsStateThat, LeadsTo, RefusesState, SaysLegal, SaysMove, SaysParts, SaysState, colour_number, passed_number, promotion_code, rights_flags}, ChessOnce.{MembersAreListed}}
use Rattle.dgt_c.{specs.{ChessOnce.{OneMove, OneState}, Hearing.{flag}, declared.header.{DgtChessMove.{DgtChessMove}, DgtChessState.{DgtChessState}}}, proofs.EncodingLemmas.{are_pieces}}
use Rattle.dgt_c.proofs.OnceLemmas.{pieces_once}

-- ---- the numbers of members

pub colour_once : (a b : Colour) → colour_number a ≡ colour_number b → a ≡ b
colour_once a b e = search rules

rights_once : (a b : Rights) → rights_flags a ≡ rights_flags b → a ≡ b
rights_once a b e = search rules

passed_once : (a b : Option Square) → passed_number a ≡ passed_number b → a ≡ b
passed_once None None e = refl
passed_once None (Some b) e = absurd (omega (arith, e, b.small))
passed_once (Some a) None e = absurd (omega (arith, e, a.small))
passed_once (Some a) (Some b) e = ap Some (same_square a b e)

man_once : (a b : Man) → promotion_code (Some a) ≡ promotion_code (Some b) → a ≡ b
man_once a b e = search rules

some_code : (man : Man) → 0 < promotion_code (Some man)
some_code man = search rules

promotion_once : (a b : Option Man) → promotion_code a ≡ promotion_code b → a ≡ b
promotion_once a b e = search (rules, some_code, man_once)

-- ---- structs

abbrev pub OnePiece : Type 0
OnePiece = (a b : Piece) → piece_code a ≡ piece_code b → a ≡ b

-- the parts that a struct describes
pub record SameParts (p p' : List Piece) (t t' : Colour) (r r' : Rights) (s s' : Option Square)
    (h h' n n' : ℕ) : Type 0 where
  pub pieces : p ≡ p'
  pub turn : t ≡ t'
  pub rights : r ≡ r'
  pub passed : s ≡ s'
  pub half_moves : h ≡ h'
  pub number : n ≡ n'

pub same_parts : OnePiece → (said : DgtChessState) (p p' : List Piece) (t t' : Colour)
    (r r' : Rights) (s s' : Option Square) (h h' n n' : ℕ) → SaysParts said p t r s h n
    → SaysParts said p' t' r' s' h' n' → SameParts p p' t t' r r' s s' h h' n n'
same_parts one said p p' t t' r r' s s' h h' n n' x y =
    search (rules, pieces_once, colour_once, rights_once, passed_once)

pub one_state : OnePiece → OneState
one_state one said a b x y =
    let same = same_parts one said _ _ _ _ _ _ _ _ _ _ _ _ x y in
    search (rules, same_state, same_position)

pub only_state : OnePiece → (said : DgtChessState) (state : State) → SaysState said state
    → IsOnlyState said state
only_state one said state says = search (rules, one_state)

-- a struct describes a state of a kind exactly if the state that was read is of this kind
pub of_state : (Is : State → Type 0) (said : DgtChessState) (state : State)
    → IsOnlyState said state → (b : Bool) → (IsTrue b ↔ Is state) → IsTrue b ↔ IsStateThat said Is
of_state Is said state only b law =
    (λ yes. (state, only.0, law.0 yes), λ other. law.1 (subst Is (only.1 other.0 other.1) other.2))

pub of_none : (Is : State → Type 0) (said : DgtChessState) → ¬ (IsState said)
    → IsTrue false ↔ IsStateThat said Is
of_none Is said none = (λ no. absurd cc, λ other. absurd (none (other.0, other.1)))

flag_listed : (is : Bool) → flag is < 2
flag_listed is = search rules

rights_listed : (rights : Rights) → All (λ flag. flag < 2) (rights_flags rights)
rights_listed rights = search (rules, flag_listed)

pub members_are_listed : MembersAreListed
members_are_listed said (p, t, r, s, h, n, says) = (
  are_pieces p said.pieces (sym says.pieces_said),
  rw says.turn_said (search rules),
  rw says.rights_said (rights_listed r),
  rw says.passed_said (search rules),
  says.reserved,
)

-- no game reaches a struct for which there is a reason
pub refused_state : OnePiece → RefusedAreImpossible → StatesArePossible → (said : DgtChessState)
    (why : Impossible) → RefusesState said why → ¬ (IsState said)
refused_state one refused possible said why (p, t, r, s, h, n, says, refuses) (state, is) =
    let same = same_parts one said _ _ _ _ _ _ _ _ _ _ _ _ says is in
    ∥∥₁_elim (possible state) (λ x y. absurd x) (search rules)

-- ---- moves

pub one_move : OneMove
one_move said a b x y = search (rules, same_move, promotion_once)

pub only_move : (said : DgtChessMove) (one : Move) → SaysMove said one → IsOnlyMove said one
only_move said one says = search (rules, one_move)

-- the structs describe a legal move exactly if the move that was read is legal
pub of_legal : (said : DgtChessState) (move : DgtChessMove) (state : State) (one : Move)
    → IsOnlyState said state → IsOnlyMove move one → SaysLegal said move
    → Legal state (square_number one.from) (square_number one.to) one.promotion
of_legal said move state one only only' legal = search rules

pub is_legal : (said : DgtChessState) (move : DgtChessMove) (state : State) (one : Move)
    → IsOnlyState said state × IsOnlyMove move one → (b : Bool)
    → (IsTrue b ↔ Legal state (square_number one.from) (square_number one.to) one.promotion)
    → IsTrue b ↔ SaysLegal said move
is_legal said move state one (only, only') b law = (
  λ yes. (state, one, only.0, only'.0, law.0 yes),
  λ legal. law.1 (of_legal said move state one only only' legal),
)

-- no legal move leads to pieces if none leads to those that were read
pub no_lead : OnePiece → (said : DgtChessState) (codes : List ℕ) (state : State)
    (pieces : List Piece) → IsOnlyState said state → map piece_code pieces ≡ codes
    → ((from to : ℕ) (promotion : Option Man) → from < 64 → to < 64
    → ¬ (Reaches state pieces from to promotion)) → (one : Move) → ¬ (LeadsTo said codes one)
no_lead one said codes state pieces only is none move (s, p, says, is', reaches) =
    let same : p ≡ pieces = pieces_once one p pieces (is' ∙ sym is) in
    none _ _ _ move.from.small move.to.small (rw (only.1 s says, same) at reaches)
