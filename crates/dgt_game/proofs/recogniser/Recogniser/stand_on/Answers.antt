use Rattle.{std.{proofs.Common.{◌≡◌, ◌∙◌, ap, true, Some}, specs.Prelude.{slice_get}}, dgt_game.{specs.{Memory.{steps}, Standing.{StandsOn}}, proofs.Standing.{at_other, of_some, resting, some_view}}}
use Rattle.dgt_game.proofs.Standing.{told_stays}
use Rattle.dgt_game.proofs.recogniser.Recogniser.stand_on.Goals as goal

pub returns-then-self-clause-stands : goal.returns-then-self-clause-stands
returns-then-self-clause-stands c = λ view ready seen other reads.
    let old = c.args.self.now.memory in
    let new = c.set_sure.new.self in
    let sure = c.set_sure.ensures in
    let is_sure = c.args.self.now.is_sure in
    let at = rw c.in-Seen.is at reads in
    let step = at.0 in
    let found : slice_get (steps new.seen.items) c.in-Seen.k ≡ Some step =
    ap (λ xs. slice_get xs c.in-Seen.k) sure.seen ∙ at.1 in
    resting new (told_stays old new sure.back sure.unsaid ready.0) (sure.answer ∙ ready.1)
    (some_view view _ _ seen (rw c.in-Seen.is (of_some _ step (StandsOn true is_sure view) found
    (λ e. at.2, λ e wrong. absurd (cc)))))

pub returns-in_default-clause-stands : goal.returns-in_default-clause-stands
returns-in_default-clause-stands c = λ view ready seen other reads.
    resting c.args.self.now.memory ready.0 ready.1 (some_view view _ _ seen (at_other c.args.place
    c.args.self.now.memory c.args.self.now.is_sure view other c.in_default.not-Seen))
