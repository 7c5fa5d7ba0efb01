use Rattle.std.proofs.Common.{◌∙◌, sym}
use Rattle.dgt_chess.proofs.laws.one_state_after.Goals as goal

pub returns : goal.returns
returns c = λ man state from to promotion a b one two. (
  one.pieces ∙ sym two.pieces,
  one.turn ∙ sym two.turn,
  one.rights ∙ sym two.rights,
  one.passed ∙ sym two.passed,
  one.half_moves ∙ sym two.half_moves,
  one.number ∙ sym two.number,
)
