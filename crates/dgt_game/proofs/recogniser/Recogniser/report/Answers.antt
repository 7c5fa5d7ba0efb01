use Rattle.{std.proofs.{Common.{sym}, lemmas.Option.{none-some}}, dgt_game.proofs.{Planning.{plans_with}, Timing.{right_with}}}
use Rattle.dgt_game.proofs.recogniser.Recogniser.report.Goals as goal

pub returns-clause-tells : goal.returns-clause-tells
returns-clause-tells c =
    let event = c.in_ok-event.event in
    let ensures = c.in_ok-event.ensures in (
      λ shown line knows. let (after, leads, known) = ensures.told shown line knows in
          (after, leads, record { held = known.held; seen = known.seen }),
      λ waits. let right = ensures.right waits in
          (right.0, right_with c.next_event.new.self c.plan-self.result event right.1),
      λ waits. ensures.follows waits,
      λ none. absurd (none-some event (sym none)),
      λ quiet. absurd (none-some event (sym (ensures.idle quiet).0)),
      λ none. absurd (none-some event (sym none)),
      ensures.coming,
      ensures.notes,
    )

pub returns-clause-planned : goal.returns-clause-planned
returns-clause-planned c =
    plans_with c.next_event.new.self c.plan-self.result c.plan-self.result c.plan-self.ensures.plans

pub returns-clause-found : goal.returns-clause-found
returns-clause-found c = λ lost h. c.in_ok-event.ensures.found lost h

pub returns-clause-there : goal.returns-clause-there
returns-clause-there c = λ stands waits. c.in_ok-event.ensures.there stands waits
