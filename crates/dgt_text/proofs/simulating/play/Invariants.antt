use Rattle.{std.proofs.Common.{◌≤◌, ◌+◌, ◌*◌}, dgt_text.specs.Simulating.{PlaysOn, part}, dgt_lines.proofs.TurnLemmas.{BetweenReads}}
use Rattle.dgt_text.proofs.simulating.play.Given as goal

abbrev pub invariant-loop : goal.invariant-loop
invariant-loop g l = record {
  in_turns : BetweenReads g.R.Source g.W.Sink l.fn.reader l.reader l.fn.writer l.writer l.counter
      l.fn.limit;
  played : PlaysOn g.S.Stage.rules g.W.Sink
      (part 1 in_turns.bytes (g.S.Stage.seen l.fn.world) (g.S.Stage.seen l.world)) l.fn.writer
      l.writer l.line l.number;
  short : l.number ≤ 4096 * l.counter + 1;
}
