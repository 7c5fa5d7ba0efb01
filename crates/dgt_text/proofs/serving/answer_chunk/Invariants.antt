use Rattle.{std.proofs.Common.{◌≡◌, ◌≤◌, ◌-◌, false, length, take}, dgt_text.specs.Serving.{Served}}
use Rattle.dgt_text.proofs.serving.answer_chunk.Given as goal

abbrev pub invariant-loop-at : goal.invariant-loop-at
invariant-loop-at g l = record {
  bound : l.at ≤ length l.chunk;
  served : Served g.W.Sink l.fn.board l.board l.fn.writer l.writer (take l.at l.chunk);
  no_flush : g.W.Sink.flushed l.fn.writer ≡ false → g.W.Sink.flushed l.writer ≡ false;
}

abbrev pub decreases-loop-at : goal.decreases-loop-at
decreases-loop-at g l = length l.chunk - l.at
