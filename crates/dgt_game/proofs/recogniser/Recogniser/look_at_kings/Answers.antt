use Rattle.std.proofs.Common.{rules, inr}
use Rattle.dgt_game.proofs.Waiting.{some_end}
use Rattle.dgt_game.proofs.recogniser.Recogniser.look_at_kings.Goals as goal

pub returns-then-self-4-clause-kings : goal.returns-then-self-4-clause-kings
returns-then-self-4-clause-kings c = λ has.
    let (end, (step, at, kings)) = some_end c.kings_result.result _ c.is_some-self.result
    c.is_some-self.ensures has c.kings_result.ensures.is in
    inr (search rules, search rules, (step, (end.0, kings)))
