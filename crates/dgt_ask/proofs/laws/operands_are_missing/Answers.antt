use Rattle.std.{proofs.Common.{inl, inr, refl, rules}, specs.Prelude.{codes}}
use Rattle.dgt_ask.proofs.laws.operands_are_missing.Goals as goal

pub returns-clause-alone : goal.returns-clause-alone
returns-clause-alone c = λ word. inl refl

pub returns-clause-id : goal.returns-clause-id
returns-clause-id c = (
  inr (refl, codes "ff", refl, (λ help. search rules)),
  (λ lacks. search rules),
  (λ lacks. search rules),
  (λ lacks. search rules),
)
