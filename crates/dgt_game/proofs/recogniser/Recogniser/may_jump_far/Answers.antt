use Rattle.dgt_game.{proofs.{Chains.{same_some}, recogniser.Recogniser.may_jump_far.Goals.{then-has_moved, else-has_moved, then-halves-lt3}}, specs.{Reading.{HasMoved}, Waiting.{last_of}}}
use Rattle.{dgt_game.proofs.recogniser.Recogniser.may_jump_far.Goals.{else-halves-lt3}, std.proofs.{Common.{◌≡◌, ◌∙◌, List, arith, false, Some, inl, inr, subst, sym}, lemmas.Bool.{false≢true}}}
use Rattle.{std.proofs.lemmas.Bool.Decides.{nat_tests}, dgt_values.specs.declared.pieces.Piece.{Piece}, dgt_chess.specs.declared.pieces.Colour.{Colour}}
use Rattle.dgt_game.proofs.recogniser.Recogniser.may_jump_far.Goals as goal

pub returns-else-have_moved-3 : goal.returns-else-have_moved-3
returns-else-have_moved-3 c = record {
  reads = λ place may some. elim may [
    | inl behind ↦ behind
    | inr (step, last, moved) ↦
        let self = c.args.self.now in
        let node = c.in-Some.node in
        let at : last_of self.memory ≡ Some node.step = rw place at c.in-Some.ensures in
        let same : step ≡ node.step = same_some (last_of self.memory) step node.step last at in
        let here = λ (colour : Colour). subst (λ (ps : List Piece). HasMoved ps node.step.state
        colour) (sym c.from-shown.ensures) (rw same at (moved colour)) in
        let no : c.if-has_moved.have_moved ≡ false = elim c.if-halves-lt3.branch [
          | then-halves-lt3 w ↦
              let less = w.if-halves-lt3.true in
              let test = sym c.if-have_moved-3.false ∙ w.value-is in
              absurd (grind (arith, nat_tests))
          | else-halves-lt3 w ↦ sym w.value-is ∙ c.if-have_moved-3.false
        ] in
        absurd (elim c.if-has_moved.branch [
          | then-has_moved w ↦ false≢true (sym no ∙ w.have_moved-is
              ∙ w.has_moved-have_moved.ensures (here Colour.Black))
          | else-has_moved w ↦ false≢true (sym w.if-has_moved.false
              ∙ c.has_moved.ensures (here Colour.White))
        ])
  ];
}
