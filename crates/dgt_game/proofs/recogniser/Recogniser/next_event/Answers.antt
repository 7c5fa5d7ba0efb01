use Rattle.std.{proofs.{Common.{rules, ◌≡◌, ◌∙◌, Some, false, inl, inr, refl, ap, sym}, lemmas.Option.{MatchOption-at_some, none-some}}, specs.Prelude.{⊤}}
use Rattle.dgt_game.specs.{declared.{event.GameResult.{GameResult}, node.Step.{Step}, recogniser.{Lost.{Lost}, Over.{Over}}}}
use Rattle.dgt_game.specs.{Waiting.{EndsBy, coming, has_notice, has_result, stays_lost}, Standing.{IsMeant}}
use Rattle.dgt_game.proofs.{Finding.{found_later}, Standing.{back_moved, meant_moved, there_then}, Waiting.{ended_right, found_before, last_comes, right_of_line, silent}}
use Rattle.dgt_game.proofs.recogniser.Recogniser.next_event.Goals as goal

pub returns-in-Some-next_event-clause-right : goal.returns-in-Some-next_event-clause-right
returns-in-Some-next_event-clause-right c = λ h.
    let self = c.next_before.new.self in
    let new = c.follow_up.new.self in
    let next = c.in-Some-next_event in
    let waits = (c.in_default.ensures.right h).0 in
    let quiet : has_notice new.lost ≡ false =
    ap (λ (l : Lost). has_notice l) c.follow_up.ensures.lost ∙ c.in_default.ensures.quiet in (
      (
        c.follow_up.ensures.right (rw next.ensures.coming waits.0),
        silent new.lost _ _ quiet,
        elim waits.2 [
          | inl told ↦ absurd (none-some next.event (sym (c.next_event.ensures.still told.0)
              ∙ next.is))
          | inr found ↦ inr (ap (λ (l : Lost). stays_lost l) c.follow_up.ensures.lost ∙ found)
        ],
      ),
      right_of_line new next.event next.ensures.of_line,
    )

pub returns-clause-right : goal.returns-clause-right
returns-clause-right c = λ h.
    let self = c.next_before.new.self in
    let new = c.next_event.new.self in
    let waits = (c.in_default.ensures.right h).0 in
    let value = c.in_ok-result.ensures.value in
    let was : self.ended ≡ Some (c.in_ok-result.result, c.in_ok-result.over) = search rules in
    let end = MatchOption-at_some ⊤ (λ (end : GameResult × Over). (step : Step) × (coming
    self.memory ≡ Some step) × EndsBy end.1 self.view step end.0) (
      c.in_ok-result.result,
      c.in_ok-result.over,
    ) was waits.0 in
    let none = c.in_default-next_event.ensures.none refl in
    let last = sym (last_comes new none.0 none.1) ∙ c.in_default-next_event.ensures.coming
    ∙ end.1 in (
      (
        rw c.in_ok-result.ensures.after tt,
        silent self.lost _ _ c.in_default.ensures.quiet,
        inl (none, c.in_ok-result.ensures.after),
      ),
      (
        end.0,
        last,
        (ended_right c.in_ok-result.over self.view end.0 c.in_ok-result.result end.2).1,
        elim waits.2 [
          | inl told ↦ absurd (none-some (c.in_ok-result.result, c.in_ok-result.over)
              (sym told.1 ∙ was))
          | inr found ↦ found_before self.lost c.in_default.ensures.quiet found
        ],
      ),
    )

pub returns-clause-follows : goal.returns-clause-follows
returns-clause-follows c = λ h.
    let self = c.next_before.new.self in
    let waits = (c.in_default.ensures.right h).0 in
    let follows = c.in_default.ensures.follows in
    let was : self.ended ≡ Some (c.in_ok-result.result, c.in_ok-result.over) = search rules in
    let end = MatchOption-at_some ⊤ (λ (end : GameResult × Over). (step : Step) × (coming
    self.memory ≡ Some step) × EndsBy end.1 self.view step end.0) (
      c.in_ok-result.result,
      c.in_ok-result.over,
    ) was waits.0 in
    let none : self.over ≡ Over.No = search rules in (
      (
        sym follows.0 ∙ ap (λ (o : Over). has_result o) none,
        (ended_right c.in_ok-result.over self.view end.0 c.in_ok-result.result end.2).0,
      ),
      follows.1,
    )

pub returns-in-Some-next_event-clause-stands : goal.returns-in-Some-next_event-clause-stands
returns-in-Some-next_event-clause-stands c = λ stands.
    let self = c.next_before.new.self in
    let new = c.next_event.new.self in
    let event = c.next_event.ensures in
    let was = c.next_before.ensures.stands stands in
    let meant : IsMeant self = elim was.2 [
      | inl told ↦ absurd (none-some c.in-Some-next_event.event (sym (event.still told)
          ∙ c.in-Some-next_event.is))
      | inr meant ↦ meant
    ] in
    c.follow_up.ensures.stands (meant_moved self new event.coming event.answer meant)
    (back_moved self new event.coming event.less was.3)

pub returns-in-Some-next_event-clause-found : goal.returns-in-Some-next_event-clause-found
returns-in-Some-next_event-clause-found c = λ lost h.
    found_later c.next_before.new.self c.follow_up.new.self c.follow_up.ensures.place
    (c.in_default.ensures.lost lost) (λ quiet. none-some c.in-Some-next_event.event
    (sym (c.next_event.ensures.still quiet.0) ∙ c.in-Some-next_event.is))

pub returns-clause-found : goal.returns-clause-found
returns-clause-found c = λ lost h.
    let self = c.next_before.new.self in
    let was : self.ended ≡ Some (c.in_ok-result.result, c.in_ok-result.over) = search rules in
    found_later self (record self {
      memory = c.next_event.new.self;
      over = c.in_ok-result.over;
      ended = c.take.new.self;
    }) (refl, refl, (λ nowhere. nowhere), refl) (c.in_default.ensures.lost lost) (λ quiet. none-some
    (c.in_ok-result.result, c.in_ok-result.over) (sym quiet.1 ∙ was))

pub returns-in_err-result-clause-found : goal.returns-in_err-result-clause-found
returns-in_err-result-clause-found c = λ lost h.
    let self = c.next_before.new.self in
    rw (c.in_default-next_event.ensures.nothing refl) (c.in_default.ensures.found h)

pub returns-in-Some-next_event-clause-there : goal.returns-in-Some-next_event-clause-there
returns-in-Some-next_event-clause-there c = λ stands waits. λ line.
    let self = c.next_before.new.self in
    let event = c.next_event.ensures in
    let was = c.next_before.ensures.stands stands in
    let right = (c.in_default.ensures.right waits).0 in
    let meant : IsMeant self = elim was.2 [
      | inl told ↦ absurd (none-some c.in-Some-next_event.event (sym (event.still told)
          ∙ c.in-Some-next_event.is))
      | inr meant ↦ meant
    ] in
    there_then self c.follow_up.new.self meant right.0 c.follow_up.ensures.there
    c.follow_up.ensures.place.0
