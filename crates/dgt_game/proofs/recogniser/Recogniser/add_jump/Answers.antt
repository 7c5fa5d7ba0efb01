use Rattle.std.proofs.Common.{◌∙◌, refl, sym}
use Rattle.dgt_game.proofs.recogniser.Recogniser.add_jump.Goals as goal

pub returns-clause-stands : goal.returns-clause-stands
returns-clause-stands c = λ view ready seen shows.
    (c.add.ensures.stands view (rw c.lose_by.ensures.same ready)
    (c.lose_by.ensures.view ∙ seen)).0 refl shows

pub returns-clause-sure : goal.returns-clause-sure
returns-clause-sure c = λ sure mark h.
    let lost = c.lose_by.ensures in
    c.add.ensures.sure sure (λ e. mark (sym lost.keeps.6 ∙ e)) (rw (lost.same, lost.returned) h)
