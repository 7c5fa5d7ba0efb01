use Rattle.{std.proofs.{Common.{arith}, lemmas.Grind.{common_steps}}, dgt_c.proofs.HearingLemmas.{heard_at_most_once}}
use Rattle.dgt_c.proofs.follower_calls.hear_event.Goals as goal

pub returns-clause-hears : goal.returns-clause-hears
returns-clause-hears c = grind (arith, common_steps, heard_at_most_once)
