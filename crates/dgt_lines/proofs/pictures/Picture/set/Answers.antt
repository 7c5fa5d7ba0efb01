use Rattle.{std.proofs.{Common.{arith}, lemmas.Grind.{common_steps}}, dgt_lines.proofs.RankLemmas.{rank_set}}
use Rattle.dgt_lines.proofs.pictures.Picture.set.Goals as goal

pub invariant_of-self : goal.invariant_of-self
invariant_of-self c = grind (arith, common_steps, rank_set)
