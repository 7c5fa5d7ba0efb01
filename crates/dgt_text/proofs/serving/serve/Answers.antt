use Rattle.{std.proofs.{Common.{[], rules}, KnownBytes.{Consumes-nil}}, dgt_text.proofs.ServingLemmas.{served_more, served_stops, halted_run}, dgt_lines.proofs.TurnLemmas.{no_read, next_read}}
use Rattle.dgt_text.proofs.serving.serve.Goals as goal

pub returns-in_err-answer-clause-output : goal.returns-in_err-answer-clause-output
returns-in_err-answer-clause-output g c =
    halted_run g.R.Source g.W.Sink _ _ _ _ _ _ _ [] _ _
    (Consumes-nil (g.R.Source.left c.args.reader.now))
    c.in_err-answer.ensures.served.1 c.from_residual.ensures.1 c.in_err-answer.ensures.served.0

pub loop-init : goal.loop-init
loop-init g c = record {
  in_turns = no_read c.in_ok-answer.ensures.served.wrote (λ _. c.in_ok-answer.ensures.flushed);
  served = c.in_ok-answer.ensures.served;
}

pub returns-in_err-answer-2-clause-output : goal.returns-in_err-answer-2-clause-output
returns-in_err-answer-2-clause-output g c =
    served_stops c.divisions_append.ensures _ _ _ _ _ _ _ _ c.loop.invariant.in_turns
    c.loop.invariant.served
    c.in-Ok.ensures.bytes.0 c.in_err-answer-2.ensures.served.1
    c.from_residual-in_err-answer-2.ensures.1 c.in_err-answer-2.ensures.served.0

pub loop-preserved : goal.loop-preserved
loop-preserved g c =
    let read = c.in-Ok.ensures in
    let answered = c.in_ok-answer-2.ensures in record {
      in_turns = search (rules, next_read);
      served = search (rules, served_more);
    }
