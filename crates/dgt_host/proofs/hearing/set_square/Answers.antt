use Rattle.{std.proofs.{Common.{arith}, lemmas.Grind.{common_steps}}, dgt_host.proofs.ConfirmedLemmas.{same_set}}
use Rattle.dgt_host.proofs.hearing.set_square.Goals as goal

pub returns-clause-changed : goal.returns-clause-changed
returns-clause-changed c = grind (arith, common_steps, same_set)
