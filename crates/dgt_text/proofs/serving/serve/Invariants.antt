use Rattle.{dgt_text.specs.Serving.{Served}, dgt_lines.proofs.TurnLemmas.{BetweenReads}}
use Rattle.dgt_text.proofs.serving.serve.Given as goal

abbrev pub invariant-loop : goal.invariant-loop
invariant-loop g l = record {
  in_turns : BetweenReads g.R.Source g.W.Sink l.fn.reader l.reader l.fn.writer l.writer l.counter
      l.fn.limit;
  served : Served g.W.Sink l.fn.board l.board l.fn.writer l.writer in_turns.bytes;
}
