use Rattle.dgt_game.{proofs.Chains.{same_some, before_later, get_step}, specs.{declared.node.{Node.{Node}, Place.{Place}, Way.{Way}}, Memory.{IsBefore, IsRooted, IsTold, step_at, steps}}}
use Rattle.dgt_game.{specs.Standing.{IsCalledFor, ShowsAs, StandsAt, StandsOn}, proofs.{Standing.{found_of, lacks_as, of_some, resting, shows_as, shows_moved, some_view}, Sure.{parent_sure}}}
use Rattle.std.{proofs.{lemmas.Option.{slice_get_within}, Common.{◌≡◌, ◌∙◌, ap, inl, inr, arith, refl, sym, length, false, Some}}, specs.Prelude.{◌≢◌, slice_get}}
use Rattle.dgt_game.proofs.recogniser.Recogniser.add.Goals as goal

pub returns-then-is_answer-clause-stands : goal.returns-then-is_answer-clause-stands
returns-then-is_answer-clause-stands c = λ view ready seen.
    let m = c.push.new.self in
    let lines = steps m.line.items in
    let items = steps m.seen.items in
    let k = c.in-Some.k in
    let node : Node = record c.args.node { is_held = c.args.is_held } in
    let new = c.in-Some-seen_node.new in
    let push = c.push.ensures in
    let rooted : IsRooted (length lines) items = push.rooted ready.2 in
    let here : slice_get m.seen.items k ≡ Some new = sym c.in-Some-seen_node.ensures in
    let at : slice_get items k ≡ Some new.step = get_step m.seen.items k new here in
    let kept = c.in-Some.ensures.seen in
    let whole = c.in-Some.ensures.whole in
    let step = same_some (slice_get items k) new.step _ at kept.1 in
    let held : new.is_held ≡ node.is_held =
    ap (λ (n : Node). n.is_held) (same_some (slice_get m.seen.items k) new whole.0 here whole.1)
    ∙ whole.2 in
    let answers = c.is_answer.ensures.follows c.if-is_answer.true in
    let before : IsBefore (length lines) (length items) new.step.parent =
    before_later (length lines) k (length items) new.step.parent
    (let within = slice_get_within items k new.step at in omega (arith, within))
    (rooted k new.step at) in
    let found = found_of lines items new.step.parent before answers.1 in
    let main : ShowsAs view node → _ = λ shown. c.tell.ensures.stands (
      (push.back ∙ ready.0.0, push.unsaid ∙ ready.0.1),
      push.answer ∙ ready.1,
      rooted,
    ) c.if-self.true (some_view view _ (IsCalledFor m new.step.parent (Some new)) seen (
      of_some (step_at lines items new.step.parent) found.0 _ found.1 (inr (
        answers.0,
        before,
        inl
            answers.2,
      )),
      λ counts. shows_moved view node new kept.0 step held shown,
    )) in
    let next : c.tell.new.self.is_next ≡ false = c.tell.ensures.todo.2 in (
      λ put shows. main (shows_as view node put shows),
      λ lacks but. let all = main (lacks_as view node lacks but) in (
        rw next at all.0,
        all.1,
        elim all.2 [
          | inl told ↦ inl told
          | inr meant ↦ inr (
            meant.0,
            elim meant.1 [
              | inl last ↦ inl last
              | inr kings ↦ inr (kings.0, refl, kings.2, kings.3)
            ],
          )
        ],
        all.3,
      ),
    )

pub returns-then-is_answer-clause-answers : goal.returns-then-is_answer-clause-answers
returns-then-is_answer-clause-answers c = λ ready.
    let m = c.push.new.self in
    let items = steps m.seen.items in
    let k = c.in-Some.k in
    let new = c.in-Some-seen_node.new in
    let push = c.push.ensures in
    let rooted : IsRooted (length (steps m.line.items)) items = push.rooted ready.2 in
    let at : slice_get items k ≡ Some new.step = get_step m.seen.items k new (sym
    c.in-Some-seen_node.ensures) in
    let answers = c.is_answer.ensures.follows c.if-is_answer.true in
    let before = before_later (length (steps m.line.items)) k (length items) new.step.parent
    (let within = slice_get_within items k new.step at in omega (arith, within))
    (rooted k new.step at) in
    let found = found_of (steps m.line.items) items new.step.parent before answers.1 in
    inr (of_some c.tell.new.self.memory.answer new (λ (n : Node). n.step.way ≢ Way.Begun)
    (c.tell.ensures.answers found.0 (
      (push.back ∙ ready.0.0, push.unsaid ∙ ready.0.1),
      push.answer ∙ ready.1,
      rooted,
    ) found.1 answers.0) answers.2)

pub returns-then-is_answer-clause-holds : goal.returns-then-is_answer-clause-holds
returns-then-is_answer-clause-holds c = λ shown line back unsaid reads h.
    let m = c.push.new.self in
    let new = c.in-Some-seen_node.new in
    let held = c.push.ensures.holds shown line back unsaid reads.0 reads.1 h in
    c.tell.ensures.holds shown line (c.push.ensures.back ∙ back) (c.push.ensures.unsaid ∙ unsaid)
    (held.grows c.in-Some.k new.step (get_step m.seen.items c.in-Some.k new (sym
    c.in-Some-seen_node.ensures))) held

pub returns-else-self-clause-stands : goal.returns-else-self-clause-stands
returns-else-self-clause-stands c = λ view ready seen.
    let m = c.push.new.self in
    let items = steps m.seen.items in
    let is_sure = c.args.self.now.is_sure in
    let push = c.push.ensures in
    let kept = c.in-Some.ensures.seen in
    let told : IsTold m = (push.back ∙ ready.0.0, push.unsaid ∙ ready.0.1) in
    let none = push.answer ∙ ready.1 in (
      λ put shows. resting m told none (some_view view _ (StandsAt (Place.Seen c.in-Some.k) m
          is_sure is_sure) seen (of_some (slice_get items c.in-Some.k) _
          (StandsOn is_sure is_sure view) kept.1 (λ e. shows, λ sure next. absurd (cc)))),
      λ lacks but. resting m told none (some_view view _ (StandsAt (Place.Seen c.in-Some.k) m false
          is_sure) seen (of_some (slice_get items c.in-Some.k) _ (StandsOn false is_sure view)
          kept.1 (
            (λ e. absurd (cc)),
            λ sure next. but,
          ))),
    )

pub returns-then-is_answer-clause-sure : goal.returns-then-is_answer-clause-sure
returns-then-is_answer-clause-sure c = λ sure mark h.
    let new = c.in-Some-seen_node.new in
    let held = c.push.ensures.sure sure c.args.self.now.returned mark h in
    let follows = c.is_answer.ensures.sure c.if-is_answer.true in
    c.tell.ensures.sure sure (parent_sure sure c.push.new.self c.args.self.now.returned
    new.step.parent follows.0 follows.1 held)
    (held.seen c.in-Some.k new (sym c.in-Some-seen_node.ensures)) held
