use Rattle.{std.proofs.{Common.{refl, sym, ◌∙◌, append-nil, drop, true, arith, rules}, lemmas.List.{places}}, dgt_text.{specs.Simulating.{Stops}, proofs.PlayLemmas.{on_none, on_held, on_line}}}
use Rattle.dgt_text.proofs.PlayLemmas.{on_rest, piece_exit, stops_after, held_bytes, line_bytes, left_bytes, feed_begins}
use Rattle.dgt_text.proofs.simulating.play_chunk.Goals as goal

pub loop-at-init : goal.loop-at-init
loop-at-init g c = record {
  bound = omega arith;
  count = omega arith;
  not_failed = refl;
  in_time = λ _. refl;
  no_flush = λ h. h;
  played = λ rest h k. rw (append-nil rest)
      (on_none g.S.Stage.rules g.W.Sink
      (g.S.Stage.seen c.args.world.now) c.args.writer.now c.args.line.now c.args.number.now rest h
      k);
}

pub loop-at-preserved : goal.loop-at-preserved
loop-at-preserved g c =
    let p = c.args.chunk.now in let i = c.loop-at.at in let n = c.len_before-end.result in
    record {
      bound = search (rules, places, c.loop-at.invariant.bound, c.len_before-end.ensures.within);
      count = let k = c.loop-at.invariant.count in omega arith;
      not_failed = c.loop-at.invariant.not_failed;
      in_time = c.loop-at.invariant.in_time;
      no_flush = c.loop-at.invariant.no_flush;
      played = λ rest h k.
          let q = c.loop-at.invariant.played rest h k in
          rw (sym (held_bytes rest p i n))
          (on_held g.S.Stage.rules g.W.Sink _ _ _ _ _ _ _ _ _ _ q c.len_before-end.ensures.before
          (c.add.ensures q.rest q.kept));
    }

pub loop-at-preserved-then-at-chunk : goal.loop-at-preserved-then-at-chunk
loop-at-preserved-then-at-chunk g c =
    let p = c.args.chunk.now in let i = c.loop-at.at in let n = c.len_before-end.result in
    record {
      bound = let k = c.if-at-chunk.true in omega arith;
      count = let k = c.loop-at.invariant.count in omega arith;
      not_failed = rw c.in_ok-play_line.ensures.marks.failed c.loop-at.invariant.not_failed;
      in_time = λ h. c.in_ok-play_line.ensures.marks.in_time
          (c.loop-at.invariant.not_failed ∙ h) ∙ c.loop-at.invariant.in_time h;
      no_flush = λ h. c.in_ok-play_line.ensures.no_flush (c.loop-at.invariant.no_flush h);
      played = λ rest h k.
          let q = c.loop-at.invariant.played rest h k in
          let begins =
          feed_begins true q.rest p i n c.if-at-chunk.true c.len_before-end.ensures.found q.cut.last
          c.len_before-end.ensures.before in
          rw (sym (line_bytes rest p i n c.if-at-chunk.true c.len_before-end.ensures.found))
          (on_line g.S.Stage.rules g.W.Sink _ _ _ _ _ _ _ _ _ _ _ _ q
          c.len_before-end.ensures.before c.new.ensures
          (c.in_ok-play_line.ensures.played true _ _ (c.add.ensures q.rest q.kept) begins));
    }

pub returns-in_err-play_line-clause-played : goal.returns-in_err-play_line-clause-played
returns-in_err-play_line-clause-played g c = λ at_end rest h k.
    let p = c.args.chunk.now in let i = c.loop-at.at in let n = c.len_before-end.result in
    let fault = c.in_err-play_line.field-0.0 in
    let q = c.loop-at.invariant.played rest h k in
    let begins =
    feed_begins at_end q.rest p i n c.if-at-chunk.true c.len_before-end.ensures.found q.cut.last
    c.len_before-end.ensures.before in
    piece_exit g.S.Stage.rules g.W.Sink at_end _ _ _ _ _ _ _ _ _ _ c.from_residual.ensures.1
    (rw (left_bytes rest p i) at
    (on_rest g.S.Stage.rules g.W.Sink (λ part. Stops g.S.Stage.rules at_end part fault)
    (stops_after g.S.Stage.rules at_end fault) _ _ _ _ _ _ _ _ _ _ (drop i p) q
    (c.in_err-play_line.ensures.played at_end _ _ (c.add.ensures q.rest q.kept) begins)))
