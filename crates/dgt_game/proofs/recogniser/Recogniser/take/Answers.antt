use Rattle.{std.{proofs.Common.{rules, ◌≡◌, subst, true}, specs.Prelude.{slice_get}}, dgt_game.specs.{declared.{node.Place.{Place}, reading.Reading.{Reading}}, Memory.{steps, halves_of, told_of}}}
use Rattle.dgt_game.{specs.{Reading.{ReadsView, Shows, ShowsAt}, declared.node.Way.{Way}, Sure.{MarksStart}, Told.{IsHeld, as_shown}}, proofs.{Standing.{of_some}, Links.{starts, was_shown}}}
use Rattle.{dgt_game.proofs.Sure.{held_sure}, dgt_values.specs.Board.{pieces_of}, dgt_chess.specs.Rules.{IsStart}}
use Rattle.dgt_game.proofs.recogniser.Recogniser.take.Goals as goal

pub returns-in-At-Line-clause-stands : goal.returns-in-At-Line-clause-stands
returns-in-At-Line-clause-stands c = λ view ready seen reads.
    let m = c.args.self.now.memory in
    let line : c.args.reading ≡ Reading.At (Place.Line c.in-At-Line.k) = search rules in
    let at : ShowsAt m view (Place.Line c.in-At-Line.k) =
    rw line at reads in
    c.stand_on_line.ensures.stands view ready seen (of_some (slice_get (steps m.line.items)
    c.in-At-Line.k) at.0 (Shows view) at.1 at.2)

pub returns-in-At-Line-clause-sure : goal.returns-in-At-Line-clause-sure
returns-in-At-Line-clause-sure c = λ sure view told shown reads begins h.
    let m = c.args.self.now.memory in
    let line : c.args.reading ≡ Reading.At (Place.Line c.in-At-Line.k) = search rules in
    let at : ShowsAt m view (Place.Line c.in-At-Line.k) =
    rw line at reads in
    c.stand_on_line.ensures.sure sure told (λ e. rw at.1 (was_shown sure (told_of at.0)
    (pieces_of view.shown) (shown e) at.2)) h

pub returns-in-New-clause-sure : goal.returns-in-New-clause-sure
returns-in-New-clause-sure c = λ sure view told shown reads begins h.
    let same : Shows view c.in-New.node.step =
    subst (ReadsView c.args.self.now.memory view) c.in-New.is reads in
    c.add.ensures.sure sure (λ e. was_shown sure (told_of c.in-New.node.step)
    (pieces_of view.shown) (shown e) same) h

pub returns-in-Held-clause-stands : goal.returns-in-Held-clause-stands
returns-in-Held-clause-stands c = λ view ready seen reads.
    c.hold.ensures.stands view ready seen
    (subst (ReadsView c.args.self.now.memory view) c.in-Held.is reads)

pub returns-in-Held-clause-sure : goal.returns-in-Held-clause-sure
returns-in-Held-clause-sure c = λ sure view told shown reads begins h.
    let step = c.in-Held.node.step in
    let held : IsHeld (as_shown step.is_turned (pieces_of view.shown)) step.state =
    (subst (ReadsView c.args.self.now.memory view) c.in-Held.is reads).0 in
    let one : halves_of step.way ≡ 1 = subst MarksStart c.in-Held.is begins in
    c.hold.ensures.sure sure (λ e. held_sure sure step (pieces_of view.shown) one (shown e) held) h

pub returns-in-Two-clause-sure : goal.returns-in-Two-clause-sure
returns-in-Two-clause-sure c = λ sure view told shown reads begins h.
    let first = c.in-Two.first in
    let second = c.in-Two.second in
    let same : Shows view second.step =
    subst (ReadsView c.args.self.now.memory view) c.in-Two.is reads in
    let start : first.is_sure ≡ true → (first.step.way ≡ Way.Begun) × IsStart first.step.state =
    subst MarksStart c.in-Two.is begins in
    c.add_two.ensures.sure sure (λ e. starts sure first.step (start e).0 (start e).1)
    (λ e. was_shown sure (told_of second.step) (pieces_of view.shown) (shown e) same) h

pub returns-in-At-clause-sure : goal.returns-in-At-clause-sure
returns-in-At-clause-sure c = λ sure view told shown reads begins h.
    let m = c.args.self.now.memory in
    c.stand_on.ensures.sure sure (λ e k is.
    let at : ShowsAt m view (Place.Seen k) = subst (λ (p : Place). ReadsView m view (Reading.At p))
    is (subst (ReadsView m view) c.in-At.is reads) in
    rw at.1 (was_shown sure (told_of at.0) (pieces_of view.shown) (shown e) at.2)) h
