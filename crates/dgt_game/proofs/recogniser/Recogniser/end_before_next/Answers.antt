use Rattle.std.proofs.Common.{rules, ◌≡◌, false, inl, inr}
use Rattle.dgt_game.{proofs.Waiting.{ended_right, found_before}, specs.Waiting.{stays_lost}}
use Rattle.dgt_game.proofs.recogniser.Recogniser.end_before_next.Goals as goal

pub returns-clause-right : goal.returns-clause-right
returns-clause-right c = λ silent h.
    let end = c.in_ok-result.ensures.is in
    let found : stays_lost c.args.self.now.lost ≡ false = elim h.2 [
      | inl told ↦ absurd (search (rules, told.0.1))
      | inr found ↦ found
    ] in (
      (h.0, h.1, inr found),
      (
        end.0,
        end.1,
        (ended_right c.in_ok-result.over c.args.self.now.view end.0
            c.in_ok-result.result end.2).1,
        found_before c.args.self.now.lost silent found,
      ),
    )
