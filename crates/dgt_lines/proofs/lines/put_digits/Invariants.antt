use Rattle.{std.proofs.Common.{◌≡◌, ◌≤◌, ◌-◌, false, length, take}, hex.specs.Hex.{encode_lower}, dgt_lines.specs.Writing.{Gathered}}
use Rattle.dgt_lines.proofs.lines.put_digits.Given as goal

abbrev pub invariant-loop-at : goal.invariant-loop-at
invariant-loop-at g l = record {
  within : l.at ≤ length l.bytes;
  output : Gathered g.W.Sink l.fn.outgoing l.outgoing l.fn.writer l.writer
      (encode_lower (take l.at l.bytes));
  no_flush : g.W.Sink.flushed l.fn.writer ≡ false → g.W.Sink.flushed l.writer ≡ false;
}

abbrev pub decreases-loop-at : goal.decreases-loop-at
decreases-loop-at g l = length l.bytes - l.at
