use Rattle.{std.{proofs.Common.{rules, ◌∙◌, inl, length}, specs.Prelude.{slice_get}}, dgt_game.specs.{declared.node.Place.{Place}, Memory.{IsBefore, IsRooted, steps, told_of}, Standing.{IsCalledFor}}}
use Rattle.dgt_game.proofs.{Standing.{both, if_some, of_some, shows_as}, Told.{rooted_none}, Links.{begins, root_links}, Sure.{shown_sure}}
use Rattle.dgt_game.proofs.recogniser.Recogniser.begin.Goals as goal

pub returns-in-Some-push-clause-holds : goal.returns-in-Some-push-clause-holds
returns-in-Some-push-clause-holds c = λ shown line back unsaid seen holds.
    let forget = c.forget_seen.ensures in
    let push = c.push.ensures in
    let roots = c.in-Some.ensures.roots shown seen in
    c.tell.ensures.holds shown line (push.back ∙ forget.back ∙ back) (push.unsaid ∙ forget.unsaid ∙
    unsaid)
    (root_links shown _ c.in-Some.other roots.1)
    (push.holds shown line (forget.back ∙ back) (forget.unsaid ∙ unsaid)
    (begins _ c.in-Some.root.step roots.0.0) roots.0.1 (forget.holds shown line holds))

pub returns-in_default-push-clause-holds : goal.returns-in_default-push-clause-holds
returns-in_default-push-clause-holds c = λ shown line back unsaid seen holds.
    let forget = c.forget_seen.ensures in
    let roots = c.in-Some.ensures.roots shown seen in
    c.push.ensures.holds shown line (forget.back ∙ back) (forget.unsaid ∙ unsaid)
    (begins _ c.in-Some.root.step roots.0.0) roots.0.1 (forget.holds shown line holds)

pub returns-in-Some-push-clause-stands : goal.returns-in-Some-push-clause-stands
returns-in-Some-push-clause-stands c = λ rooted told sure fits stands.
    let forget = c.forget_seen.ensures in
    let push = c.push.ensures in
    let new = c.push.new.self in
    let cleared = c.forget_seen.new.self in
    let bare : IsRooted (length (steps cleared.line.items)) (steps cleared.seen.items) =
    rw forget.none (rooted_none _) in
    let at = c.in-Some-push.ensures.seen in
    c.tell.ensures.stands (
      (push.back ∙ forget.back ∙ told.0, push.unsaid ∙ forget.unsaid ∙ told.1),
      push.answer ∙ forget.answer ∙ stands.1 told,
      push.rooted bare,
    ) sure (if_some c.args.self.now.view _ (IsCalledFor new (Place.Seen c.in-Some-push.k)
    c.in-Some.other) c.in-Some.ensures.at (λ view shown. (
      of_some (slice_get (steps new.seen.items) c.in-Some-push.k) _ _ at.1 (inl shown.0),
      if_some c.in-Some.other _ _ (both c.in-Some.other _ _ shown.1 c.in-Some.ensures.whole)
          (λ node shows. λ counts. shows_as view node shows.1 shows.0),
    )))

pub returns-in_default-push-clause-hopeless : goal.returns-in_default-push-clause-hopeless
returns-in_default-push-clause-hopeless c =
    let free : IsBefore (length (steps c.forget_seen.new.self.line.items)) 0
    c.in-Some.root.step.parent = rw c.in-Some.ensures.free tt in
    let some = c.push.ensures.room free in
    absurd (search (rules, some))

pub returns-in-Some-push-clause-sure : goal.returns-in-Some-push-clause-sure
returns-in-Some-push-clause-sure c = λ is sure shows h.
    let found = c.in-Some.ensures in
    let marked = found.marked sure shows in
    let pushed = c.push.ensures.sure sure _ marked.0 (c.forget_seen.ensures.sure sure _ h) in
    let (place, at) = c.in-Some-push.ensures.seen in
    c.tell.ensures.sure sure (rw at (shown_sure sure (told_of c.in-Some.root.step)
    (marked.0 (found.sure ∙ is)))) marked.1 pushed
