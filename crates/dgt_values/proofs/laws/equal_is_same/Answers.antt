use Rattle.std.proofs.{Common.{rules, refl}, lemmas.Slice.Eq.{slice_eq-Decides}}
use Rattle.dgt_values.proofs.laws.equal_is_same.Goals as goal

pub returns-clause-position : goal.returns-clause-position
returns-clause-position c = λ a b. slice_eq-Decides (search rules) a.pieces b.pieces _ refl
