use Rattle.{std.proofs.Common.{◌≡◌, false}, dgt_board.specs.Sending.{left_to_send}, dgt_text.proofs.ServingLemmas.{Sent}}
use Rattle.dgt_text.proofs.serving.send_all.Given as goal

abbrev pub invariant-loop-length : goal.invariant-loop-length
invariant-loop-length g l = record {
  sent : Sent g.W.Sink l.fn.board l.board l.fn.writer l.writer;
  no_flush : g.W.Sink.flushed l.fn.writer ≡ false → g.W.Sink.flushed l.writer ≡ false;
}

abbrev pub decreases-loop-length : goal.decreases-loop-length
decreases-loop-length g l = left_to_send l.board.state
