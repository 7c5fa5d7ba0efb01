use Rattle.{std.proofs.{Common.{arith, true, [], append-nil, rules}, KnownBytes.{Consumes-trans}, lemmas.List.{length-take-le}}, dgt_text.proofs.PlayLemmas.{no_byte, on_more, on_none}}
use Rattle.{dgt_text.proofs.ScriptRuns.{plays_flushed, scripted_ends, scripted_stops, scripted_unflushed}, dgt_lines.proofs.TurnLemmas.{no_read, next_read}}
use Rattle.dgt_text.proofs.simulating.play.Goals as goal

pub loop-init : goal.loop-init
loop-init g c = record {
  in_turns = no_read (c.writes_in_a_row.ensures.nothing _) (λ h. h);
  played = on_none g.S.Stage.rules g.W.Sink _ _ _ 1 [] c.new-line.ensures no_byte;
  short = omega arith;
}

pub loop-preserved : goal.loop-preserved
loop-preserved g c =
    let q = c.loop.invariant.played in
    let read = c.in-Ok.ensures in
    let chunk = c.in_ok-play_chunk.ensures in
    let flushed = c.in_ok-flush.ensures in
    let given = length-take-le c.in-Ok.given c.read_some.new.buffer read.bound in record {
      in_turns = search (rules, next_read);
      played = plays_flushed g.S.Stage.rules g.W.Sink _ _ _ _ _ _ _ _
          (on_more g.S.Stage.rules g.W.Sink _ _ _ _ _ _ _ _ _ _ _ _ _ q
          (chunk.played true q.rest q.kept q.cut.last)) flushed.output.appends;
      short = omega (arith, read.bound, c.read_some.auto.buffer, chunk.counted);
    }

pub returns-then-given-eq0-clause-output : goal.returns-then-given-eq0-clause-output
returns-then-given-eq0-clause-output g c =
    let turns = c.loop.invariant.in_turns in
    let q = c.loop.invariant.played in
    let ends = c.in-Ok.ensures.end (c.if-given-eq0.true, omega (arith, c.read_some.auto.buffer)) in
    scripted_ends g.S.Stage.rules g.R.Source g.W.Sink _ c.args.limit _ _ _ _ _ _ _ _ _ _ _ _
    turns.bytes [] turns.given q
    (rw c.if-given-eq0.true at c.in-Ok.ensures.bytes.0) c.play_end.ensures.marks.of_line
    (rw (append-nil q.rest) (c.play_end.ensures.played _ q.rest ends q.kept q.cut.last))

pub returns-in_err-play_chunk-clause-output : goal.returns-in_err-play_chunk-clause-output
returns-in_err-play_chunk-clause-output g c =
    let turns = c.loop.invariant.in_turns in
    let q = c.loop.invariant.played in
    scripted_stops g.S.Stage.rules g.R.Source g.W.Sink _ c.args.limit _ _ _ _ _ _ _ _ _ _ _ _ _
    turns.bytes _ turns.given q
    c.in-Ok.ensures.bytes.0 c.from_residual.ensures.1
    (c.in_err-play_chunk.ensures.played _ q.rest q.kept q.cut.last)

pub returns-in_err-flush-clause-output : goal.returns-in_err-flush-clause-output
returns-in_err-flush-clause-output g c =
    let turns = c.loop.invariant.in_turns in
    let q = c.loop.invariant.played in
    scripted_unflushed g.S.Stage.rules g.R.Source g.W.Sink _ c.args.limit _ _ _ _ _ _ _ _ _ _ _
    _ (Consumes-trans _ _ _ turns.bytes _ turns.given c.in-Ok.ensures.bytes.0)
    (on_more g.S.Stage.rules g.W.Sink _ _ _ _ _ _ _ _ _ _ _ _ _ q
    (c.in_ok-play_chunk.ensures.played true q.rest q.kept q.cut.last))
    c.from_residual-in_err-flush.ensures.1 c.in_err-flush.ensures.output
