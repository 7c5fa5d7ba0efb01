use Rattle.{std.proofs.Common.{◌≡◌, ◌≤◌, ◌-◌, ◌+◌, ◌++◌, false, List, ℕ, length, take}, dgt_script.specs.ScriptLines.{HasNoFeed, KeepsLine}, dgt_text.specs.Simulating.{PlaysOn, part}}
use Rattle.dgt_text.proofs.simulating.play_chunk.Given as goal

abbrev pub invariant-loop-at : goal.invariant-loop-at
invariant-loop-at g l = record {
  bound : l.at ≤ length l.chunk;
  count : l.number ≤ l.fn.number + l.at;
  not_failed : g.W.Sink.failed l.writer ≡ g.W.Sink.failed l.fn.writer;
  in_time : g.W.Sink.failed l.fn.writer ≡ false
      → g.W.Sink.late l.writer ≡ g.W.Sink.late l.fn.writer;
  no_flush : g.W.Sink.flushed l.fn.writer ≡ false → g.W.Sink.flushed l.writer ≡ false;
  played : (rest : List ℕ) → KeepsLine l.fn.line rest → HasNoFeed rest
      → PlaysOn g.S.Stage.rules g.W.Sink
      (part l.fn.number (rest ++ take l.at l.chunk) (g.S.Stage.seen l.fn.world)
      (g.S.Stage.seen l.world)) l.fn.writer l.writer l.line
      l.number;
}

abbrev pub decreases-loop-at : goal.decreases-loop-at
decreases-loop-at g l = length l.chunk - l.at
