use Rattle.std.proofs.Common.{rules, refl, arith}
use Rattle.dgt_values.proofs.laws.squares_that_differ.Goals as goal

pub returns : goal.returns
returns c = λ bits differ. (
  (differ 0 (omega arith)).1 (search rules),
  λ set. (differ 1 (omega arith)).0 set refl,
  λ set. (differ 62 (omega arith)).0 set refl,
  (differ 63 (omega arith)).1 (search rules),
)
