use Rattle.dgt_c.proofs.GameLemmas.{what_is_written}
use Rattle.dgt_c.proofs.laws.games.calls_are_runs.Goals as goal

pub returns-clause-sees : goal.returns-clause-sees
returns-clause-sees c = λ old new seen h. (
  h.line,
  (λ shown line knows planned stands. (h.plans, h.stands shown line knows stands)),
  h.sure_line,
  h.staying,
)

pub returns-clause-tells : goal.returns-clause-tells
returns-clause-tells c = λ old new now told h. (
  h.line,
  (λ shown line knows planned stands.
      (h.planned planned, h.stands shown line knows planned stands)),
  h.sure_line,
  h.marks,
)

pub returns-clause-goes_on : goal.returns-clause-goes_on
returns-clause-goes_on c = λ old new state is_turned h.
    (h.line, h.planned, h.stands, h.sure_line, h.staying)

pub returns-clause-writes : goal.returns-clause-writes
returns-clause-writes c = what_is_written
