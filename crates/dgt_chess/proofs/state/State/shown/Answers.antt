use Rattle.{std.{proofs.Common.{◌≡◌, ◌<◌, ◌∙◌, ℕ, ap, arith, inl, inr, refl, sym, subst}, specs.Prelude.{None, Some, option_map}}, dgt_values.specs.Board.{square_number}}
use Rattle.dgt_chess.specs.{declared.pieces.Man.{Man}, Fen.{CanTakePassing}, Rules.{LegalBy, TakesPassing, board, passed}}
use Rattle.dgt_chess.proofs.state.State.shown.Goals as goal

pub returns-then-is_taken : goal.returns-then-is_taken
unfolding CanTakePassing
returns-then-is_taken c =
    let taken = c.if-is_taken.ensures.0 refl in
    let small : c.index.result < 64 =
    omega (arith, c.index.ensures.value, c.index.ensures.in_range) in
    inl ((taken.0, c.index.result, taken.1, small, taken.2, taken.3), c.in-Some.ensures)

pub returns-else-is_taken : goal.returns-else-is_taken
unfolding CanTakePassing
returns-else-is_taken c = inr (
  λ can.
      let state = c.args.self.now in
      let P : ℕ → Type 0 = λ to. (from : ℕ) × (from < 64) × LegalBy Man.Pawn state from to None
      × TakesPassing (board state) state.turn (passed state) from to in
      let known : Some (square_number c.in-Some.square) ≡ Some can.1 =
      ap (λ o. option_map square_number o) c.in-Some.ensures ∙ can.5.0 in
      let to : square_number c.in-Some.square ≡ can.1 = cc in
      let taken : P can.1 = (can.0, can.2, can.4, can.5) in
      let holds = c.if-is_taken.ensures.1 (subst P (sym to ∙ sym c.index.ensures.value) taken) in
      let no : ⊥ = cc in no,
  refl,
)

pub returns-in-None : goal.returns-in-None
unfolding CanTakePassing
returns-in-None c = inr (
  λ can.
      let known : None ≡ Some can.1 = ap (λ o. option_map square_number o) c.in-None.ensures
      ∙ can.5.0 in
      let no : ⊥ = cc in no,
  refl,
)
