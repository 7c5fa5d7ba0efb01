use Rattle.{std.proofs.{lemmas.Option.{slice_get_within}, Common.{rules, ◌∙◌, arith, refl}}, dgt_game.{specs.{declared.node.Place.{Place}, Memory.{steps}}, proofs.Told.{links_after}}}
use Rattle.dgt_game.proofs.recogniser.Recogniser.add_two.Goals as goal

pub returns-clause-holds : goal.returns-clause-holds
returns-clause-holds c = λ shown line back unsaid reads holds.
    let seen = c.in-Some.ensures.seen in
    let next = c.args.second.step in
    let after = links_after c.args.first.step next seen.0 (Place.Seen c.in-Some.k) reads.2 in
    c.add.ensures.holds shown line (c.push.ensures.back ∙ back) (c.push.ensures.unsaid ∙ unsaid) (
      rw seen.1 after,
      reads.3,
    )
    (c.push.ensures.holds shown line back unsaid reads.0 reads.1 holds)

pub returns-clause-sure : goal.returns-clause-sure
returns-clause-sure c = λ sure mark shown h.
    c.add.ensures.sure sure shown (c.push.ensures.sure sure c.args.self.now.returned mark h)

pub returns-clause-keeps : goal.returns-clause-keeps
returns-clause-keeps c = search (rules, c.push.ensures.line)

pub returns-clause-doubt : goal.returns-clause-doubt
returns-clause-doubt c = λ sure quiet. c.add.ensures.doubt sure (
  (c.push.ensures.back ∙ quiet.0.0, c.push.ensures.unsaid ∙ quiet.0.1),
  quiet.1,
  quiet.2,
)

pub returns-clause-stands : goal.returns-clause-stands
returns-clause-stands c = λ view ready seen shows.
    let push = c.push.ensures in
    (c.add.ensures.stands view (
      (push.back ∙ ready.0.0, push.unsaid ∙ ready.0.1),
      push.answer ∙ ready.1,
      push.rooted ready.2,
    ) seen).0 refl shows

pub returns-clause-here : goal.returns-clause-here
returns-clause-here c = λ few room.
    let items = steps c.push.new.self.seen.items in
    let kept = c.in-Some.ensures.seen in
    let more = c.push.ensures.few (omega (arith, few)) in
    c.add.ensures.here (omega (arith, few, more)) (slice_get_within items c.in-Some.k _ kept.1)

pub returns-clause-lost : goal.returns-clause-lost
returns-clause-lost c = λ nowhere. let (found, told) = c.add.ensures.lost nowhere in
    (found, λ t. told (c.push.ensures.back ∙ t.0, c.push.ensures.unsaid ∙ t.1))

pub returns-clause-answers : goal.returns-clause-answers
returns-clause-answers c = λ ready.
    let push = c.push.ensures in
    c.add.ensures.answers (
      (push.back ∙ ready.0.0, push.unsaid ∙ ready.0.1),
      push.answer ∙ ready.1,
      push.rooted ready.2,
    )
