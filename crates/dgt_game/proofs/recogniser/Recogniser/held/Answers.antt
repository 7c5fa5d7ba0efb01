use Rattle.{std.proofs.Common.{ap, inl}, dgt_values.specs.Board.{pieces_of}, dgt_game.{specs.{declared.node.Step.{Step}, Memory.{steps}}, proofs.{Chains.{found_before}, Hands.{held}}}}
use Rattle.dgt_game.proofs.recogniser.Recogniser.held.Goals as goal

pub returns-then-is_held-clause-linked : goal.returns-then-is_held-clause-linked
returns-then-is_held-clause-linked c = λ shown seen.
    let memory = c.args.self.now.memory in
    held shown (steps memory.line.items) (steps memory.seen.items) c.in_ok-from.from.step
    c.args.place c.in_ok-one.one c.in_ok-one.state _ (pieces_of c.args.view.now.shown)
    (pieces_of c.from-shown.result.now) c.in_ok-from.ensures c.follow.ensures.step
    c.in_ok-one.ensures.0 seen c.from-shown.ensures (inl (c.is_held.ensures c.if-is_held.true))

pub returns-then-is_held-clause-room : goal.returns-then-is_held-clause-room
returns-then-is_held-clause-room c = λ near.
    let line = steps c.args.self.now.memory.line.items in
    let seen = steps c.args.self.now.memory.seen.items in
    rw (ap (λ (s : Step). s.parent) c.follow.ensures.step)
    (found_before line seen c.args.place c.in_ok-from.from.step near
    c.in_ok-from.ensures)
