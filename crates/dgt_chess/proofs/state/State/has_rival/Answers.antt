use Rattle.{std.{proofs.Common.{below_more, arith}, specs.Prelude.{IsTrue, false}}, dgt_chess.specs.San.{HasRival}}
use Rattle.dgt_chess.proofs.state.State.has_rival.Goals as goal

pub loop-other-preserved : goal.loop-other-preserved
loop-other-preserved c =
    below_more _ _ c.loop-other.invariant (λ rival. let holds = c.is_rival.ensures.1 rival in cc)

pub returns : goal.returns
unfolding HasRival
returns c = (
  λ (yes : IsTrue false). let no : ⊥ = cc in absurd no,
  λ rival. absurd (c.loop-other.invariant rival.0 (omega arith) rival.2),
)
