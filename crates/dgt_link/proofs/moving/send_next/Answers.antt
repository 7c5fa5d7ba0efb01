use Rattle.{std.proofs.Common.{rules}, dgt_board.specs.Sending.{next_message}, dgt_link.proofs.{BoardSteps.{next_step}, LineMoves.{polled_is_sent}}}
use Rattle.dgt_link.proofs.moving.send_next.Goals as goal

pub returns-in-Wrote-clause-sends : goal.returns-in-Wrote-clause-sends
returns-in-Wrote-clause-sends c =
    let sent = polled_is_sent c.in-Wrote.count c.room.result (next_message c.args.board.now.state)
    c.args.board.now
    c.poll.new.self c.args.line.now c.push.new.self _ c.poll.new.out _ c.in-Wrote.ensures.polls
    (search rules) c.room.ensures c.push.ensures in
    λ world. next_step c.args.line.now c.push.new.self world c.args.board.now c.poll.new.self sent.0
    sent.1
