use Rattle.{std.proofs.{Common.{ap, inr}, lemmas.Bool.{false≢true}}, dgt_values.specs.Board.{pieces_of}}
use Rattle.dgt_game.{specs.{declared.node.Step.{Step}, Memory.{step_at, steps}}, proofs.{Chains.{found_before}, Gone.{gone_here, reads_without}, Hands.{held}}}
use Rattle.dgt_game.proofs.recogniser.Recogniser.without_one.Goals as goal

pub returns-clause-linked : goal.returns-clause-linked
returns-clause-linked c = λ shown seen.
    let memory = c.args.self.now.memory in
    let (square, (move, lacks, same)) = c.in_ok-one.ensures.is in
    held shown (steps memory.line.items) (steps memory.seen.items) c.in_ok-from.from.step
    c.args.place c.in_ok-one.one c.in_ok-one.state _ (pieces_of c.args.view.now.shown)
    (pieces_of c.from-shown.result.now) c.in_ok-from.ensures c.follow-node.ensures.step
    move seen c.from-shown.ensures (inr (square, lacks))

pub returns-clause-room : goal.returns-clause-room
returns-clause-room c = λ near.
    let line = steps c.args.self.now.memory.line.items in
    let seen = steps c.args.self.now.memory.seen.items in
    rw (ap (λ (s : Step). s.parent) c.follow-node.ensures.step)
    (found_before line seen c.args.place c.in_ok-from.from.step near
    c.in_ok-from.ensures)

pub returns-clause-at : goal.returns-clause-at
returns-clause-at c =
    let (square, (move, lacks, same)) = c.in_ok-one.ensures.is in
    reads_without c.args.view.now c.in_ok-from.from.step c.follow-node.result.step c.args.place
    c.in_ok-one.one c.in_ok-one.state (pieces_of c.from-shown.result.now) square
    c.follow-node.ensures.step c.from-shown.ensures lacks

pub returns-in_err-one-clause-reads : goal.returns-in_err-one-clause-reads
returns-in_err-one-clause-reads c = λ gone.
    let memory = c.args.self.now.memory in
    let here = step_at (steps memory.line.items) (steps memory.seen.items) c.args.place in
    absurd (false≢true (c.in_err-one.ensures.some.1 (gone_here here c.in_ok-from.from.step
    (pieces_of c.from-shown.result.now) (pieces_of c.args.view.now.shown) c.in_ok-from.ensures
    c.from-shown.ensures gone)))
