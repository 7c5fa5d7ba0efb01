-- Values are the same if clauses see the same of them.
use Rattle.std.{proofs.{Common.{rules, ◌≡◌, ℕ, ◌<◌, List, ap, length, refl, subst}, Math.Logic.{∥∥₁_prop}, Props.{props}}, specs.Prelude.{Option, Some, None, option_map}}
use Rattle.dgt_values.specs.{declared.{pieces.Piece.{Piece}, positions.Position.{Position}, squares.Square.{Square}}, Board.{pieces_of, square_number}}
use Rattle.dgt_chess.specs.{declared.{pieces.{Colour.{Colour}}, possible.Rights.{Rights}, state.{Move.{Move}, State.{State}}}, Possible.{IsPossible}, Rules.{board, passed}}

pub same_square : (a b : Square) → square_number a ≡ square_number b → a ≡ b
same_square a b e =
    let once : IsProp (a.index < 64) = hlevel props in
    let Same : ℕ → Type 0 = λ n. (small : n < 64) → a ≡ record { index = n; small = small } in
    subst Same e (λ small. ap (λ (p : a.index < 64). record { index = a.index; small = p })
    (once a.small small)) b.small

pub same_move : (a b : Move) → square_number a.from ≡ square_number b.from
    → square_number a.to ≡ square_number b.to → a.promotion ≡ b.promotion → a ≡ b
same_move a b from to promotion =
    let from_same = same_square a.from b.from from in
    let to_same = same_square a.to b.to to in
    search rules

pub same_position : (a b : Position) → pieces_of a ≡ pieces_of b → a ≡ b
same_position a b e =
    let once : IsProp (length a.pieces ≡ 64) = hlevel props in
    let Same : List Piece → Type 0 =
    λ l. (all : length l ≡ 64) → a ≡ record { pieces = l; all = all } in
    subst Same e (λ all. ap (λ (p : length a.pieces ≡ 64). record { pieces = a.pieces; all = p })
    (once a.all all)) b.all

pub same_passed : (a b : Option Square) → option_map square_number a ≡ option_map square_number b
    → a ≡ b
same_passed None None e = refl
same_passed None (Some b) e = absurd cc
same_passed (Some a) None e = absurd cc
same_passed (Some a) (Some b) e = let same : square_number a ≡ square_number b = cc in
    ap Some (same_square a b same)

abbrev Possible : Position → Colour → Rights → Option Square → ℕ → Type 0
Possible position turn rights passed number =
    ∥ IsPossible (pieces_of position) turn rights (option_map square_number passed) number ∥₁

abbrev state_of : (position : Position) (turn : Colour) (rights : Rights) (passed : Option Square)
    (half_moves number : ℕ) → Possible position turn rights passed number → State
state_of position turn rights passed half_moves number possible = record {
  position = position;
  turn = turn;
  rights = rights;
  passed = passed;
  half_moves = half_moves;
  number = number;
  possible = possible;
}

pub same_state : (a b : State) → a.position ≡ b.position → a.turn ≡ b.turn → a.rights ≡ b.rights
    → a.passed ≡ b.passed → a.half_moves ≡ b.half_moves → a.number ≡ b.number → a ≡ b
same_state a b p t r s h n =
    let Same : Position → Colour → Rights → Option Square → ℕ → ℕ → Type 0 =
    λ p t r s h n. (possible : Possible p t r s n) → a ≡ state_of p t r s h n possible in
    let one : Same a.position a.turn a.rights a.passed a.half_moves a.number =
    λ possible. ap (λ q. state_of a.position a.turn a.rights a.passed a.half_moves a.number q)
    (∥∥₁_prop a.possible possible) in
    subst (λ (p : Position). Same p b.turn b.rights b.passed b.half_moves b.number) p
    (subst (λ (t : Colour). Same a.position t b.rights b.passed b.half_moves b.number) t
    (subst (λ (r : Rights). Same a.position a.turn r b.passed b.half_moves b.number) r
    (subst (λ (s : Option Square). Same a.position a.turn a.rights s b.half_moves b.number) s
    (subst (λ (h : ℕ). Same a.position a.turn a.rights a.passed h b.number) h
    (subst (λ (n : ℕ). Same a.position a.turn a.rights a.passed a.half_moves n) n one)))))
    b.possible

-- states of the same parts are the same
pub alike : (a b : State) → board a ≡ board b → a.turn ≡ b.turn → a.rights ≡ b.rights
    → passed a ≡ passed b → a.half_moves ≡ b.half_moves → a.number ≡ b.number → a ≡ b
alike a b p t r s h n =
    same_state a b (same_position a.position b.position p) t r (same_passed a.passed b.passed s) h n
