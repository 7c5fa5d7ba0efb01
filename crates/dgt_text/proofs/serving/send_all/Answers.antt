use Rattle.dgt_text.proofs.ServingLemmas.{has_sent, sent_more, sent_halts, halted_exit}
use Rattle.dgt_text.proofs.serving.send_all.Goals as goal

pub loop-length-preserved : goal.loop-length-preserved
loop-length-preserved g c =
    let sent = has_sent c.loop-length.board c.poll.new.self c.in-Wrote.length c.loop-length.message
    c.poll.new.out c.in-Wrote.ensures.polls in
    record {
      sent = sent_more _ c.writes_in_a_row.ensures _ _ _ _ _ _ sent.message
          c.loop-length.invariant.sent sent.next
          sent.state (rw sent.bytes at c.in_ok-put.ensures.output);
      no_flush = λ h. c.in_ok-put.ensures.no_flush (c.loop-length.invariant.no_flush h);
    }

pub returns-in_err-put-clause-served : goal.returns-in_err-put-clause-served
returns-in_err-put-clause-served g c =
    let sent = has_sent c.loop-length.board c.poll.new.self c.in-Wrote.length c.loop-length.message
    c.poll.new.out c.in-Wrote.ensures.polls in
    halted_exit _ _ _ _ _ _ _ _ c.from_residual.ensures.1 c.in_err-put.ensures.output.0
    (sent_halts _ _ _ _ _ _ _ sent.message c.loop-length.invariant.sent
    c.in-Wrote.ensures.board.partial sent.next
    sent.state (rw sent.bytes at c.in_err-put.ensures.output.1))
