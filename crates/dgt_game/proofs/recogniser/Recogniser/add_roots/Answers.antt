use Rattle.std.proofs.Common.{◌∙◌, arith}
use Rattle.dgt_game.proofs.recogniser.Recogniser.add_roots.Goals as goal

pub returns-clause-holds : goal.returns-clause-holds
returns-clause-holds c = λ shown line back unsaid seen holds.
    let roots = c.roots-white.ensures.roots shown seen in
    let room = c.make_room.ensures in
    let first = c.add_root.ensures in
    let one = first.holds shown line (room.back ∙ back) (room.unsaid ∙ unsaid) roots.0
    (room.holds shown line holds) in
    c.add_root-2.ensures.holds shown line (first.back ∙ room.back ∙ back)
    (first.unsaid ∙ room.unsaid ∙ unsaid) roots.1 one

pub returns-clause-kept : goal.returns-clause-kept
returns-clause-kept c = λ few picture seen.
    let room = c.make_room.ensures in
    let first = c.add_root.ensures in
    let one = first.kept (omega (arith, few, room.few)) picture
    (rw (room.kept (omega (arith, few))) seen) in
    c.add_root-2.ensures.kept
    (omega (arith, few, room.few, first.few (omega (arith, few, room.few)))) picture one

pub returns-clause-sure : goal.returns-clause-sure
returns-clause-sure c = λ sure shows h.
    let roots = c.roots-white.ensures.marked sure shows in
    c.add_root-2.ensures.sure sure roots.1 (c.add_root.ensures.sure sure roots.0
    (c.make_room.ensures.sure sure _ h))
