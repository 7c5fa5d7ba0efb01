use Rattle.dgt_game.proofs.Sure.{gone_back}
use Rattle.dgt_game.proofs.recogniser.Recogniser.stand_on_line.Goals as goal

pub returns-clause-sure : goal.returns-clause-sure
returns-clause-sure c = λ sure told shown h.
    let self = c.args.self.now in
    let gone = c.returned_to-self.result in
    let next = gone_back sure self.returned gone self.memory told (λ e.
    let back = c.returned_to-self.ensures.sure e in
    rw back.1 (shown back.0)) h in
    rw c.find.ensures.memory
    (rw c.find.ensures.returned (c.forget_seen.ensures.sure sure gone next))
