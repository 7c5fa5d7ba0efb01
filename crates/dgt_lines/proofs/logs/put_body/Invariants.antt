use Rattle.{std.proofs.Common.{◌≤◌, ◌-◌, List, length}, dgt_stored.specs.Stored.{Says, StoredContent}, dgt_lines.proofs.StoredLines.{PutSome}}
use Rattle.dgt_lines.proofs.logs.put_body.Given as goal

abbrev pub invariant-loop-at : goal.invariant-loop-at
invariant-loop-at g l = record {
  bound : l.at ≤ length l.body;
  some : (things : List StoredContent) → Says l.body things
      → PutSome g.W.Sink l.fn.outgoing l.outgoing l.fn.writer l.writer l.before l.at l.body things;
}

abbrev pub decreases-loop-at : goal.decreases-loop-at
decreases-loop-at g l = length l.body - l.at
