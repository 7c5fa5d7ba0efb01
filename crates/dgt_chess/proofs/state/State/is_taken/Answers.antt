use Rattle.std.{proofs.Common.{below_more, arith}, specs.Prelude.{IsTrue, false}}
use Rattle.dgt_chess.proofs.state.State.is_taken.Goals as goal

pub loop-a-preserved : goal.loop-a-preserved
loop-a-preserved c =
    below_more _ _ c.loop-a.invariant (λ takes. let holds = c.takes_passing.ensures.1 takes in cc)

pub returns : goal.returns
returns c = (
  λ (yes : IsTrue false). let no : ⊥ = cc in absurd no,
  λ taken. absurd (c.loop-a.invariant taken.0 (omega arith) (taken.2, taken.3)),
)
