use Rattle.{dgt_values.specs.Board.{pieces_of}, dgt_game.{specs.Memory.{told_of}, proofs.Links.{starts, was_shown}}}
use Rattle.dgt_game.proofs.recogniser.Recogniser.start_deep.Goals as goal

pub returns-clause-holds : goal.returns-clause-holds
returns-clause-holds c = λ shown line back unsaid seen holds.
    c.add_two.ensures.holds shown line back unsaid (c.in-Some.ensures.linked shown seen) holds

pub returns-clause-stands : goal.returns-clause-stands
returns-clause-stands c = λ ready seen stands.
    c.add_two.ensures.stands c.args.view.now ready seen c.in-Some.ensures.at

pub returns-clause-sure : goal.returns-clause-sure
returns-clause-sure c = λ sure shown h.
    let found = c.in-Some.ensures in
    let first = c.in-Some.root in
    c.add_two.ensures.sure sure (λ e. let begins = found.begins e in
    starts sure first.step begins.0 begins.1) (λ e. was_shown sure
    (told_of c.in-Some.node.step) (pieces_of c.args.view.now.shown) (shown e) found.at) h
