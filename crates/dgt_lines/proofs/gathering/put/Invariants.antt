use Rattle.{std.proofs.Common.{◌≡◌, ◌<◌, ◌≤◌, ◌-◌, false, length, take}, dgt_lines.specs.Writing.{Wrote}}
use Rattle.dgt_lines.proofs.gathering.put.Given as goal

abbrev pub invariant-loop-at : goal.invariant-loop-at
invariant-loop-at g l = record {
  bound : l.at ≤ length l.bytes;
  output : Wrote g.W.Sink l.fn.writer l.writer (take l.at l.bytes);
  no_flush : g.W.Sink.flushed l.fn.writer ≡ false → g.W.Sink.flushed l.writer ≡ false;
  unflushed : 0 < l.at → g.W.Sink.flushed l.writer ≡ false;
}

abbrev pub decreases-loop-at : goal.decreases-loop-at
decreases-loop-at g l = length l.bytes - l.at
