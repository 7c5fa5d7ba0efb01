use Rattle.{std.proofs.{Common.{◌+◌, ◌++◌, arith, drop, rules, take}, lemmas.List.{places, take_all}}, dgt_command.specs.Encoding.{AreBytes}, dgt_lines.proofs.ChunkLemmas.{all_bytes, counted_on}}
use Rattle.dgt_lines.proofs.ChunkLemmas.{gathered_first, gathered_more, later_bytes, more_bytes, prints_out, prints_refused}
use Rattle.dgt_lines.proofs.printers.print_chunk.Goals as goal

pub loop-at-init : goal.loop-at-init
loop-at-init g c = search (rules, gathered_first)

pub loop-at-preserved : goal.loop-at-preserved
loop-at-preserved g c = record {
  bound = search (rules, places, c.loop-at.invariant.bound, c.in_ok-at.ensures.within);
  gathered = λ first bytes text has counted.
      let now = c.loop-at.invariant.gathered first bytes text has counted in
      let prefix = bytes ++ take c.loop-at.at c.args.chunk.now in
      let more = c.in_ok-at.ensures.output first prefix (text ++ now.more) now.has
      (counted_on bytes c.args.chunk.now c.loop-at.at c.args.offset counted
      c.loop-at.invariant.bound) in
      rw (more.1, ← more_bytes bytes c.args.chunk.now c.loop-at.at more.0)
      (gathered_more _ _ _ _ _ text now _ _ _ more.2);
  no_flush = λ h. c.in_ok-at.ensures.no_flush (c.loop-at.invariant.no_flush h);
}

-- what was read goes on with the rest of the chunk
pub returns-in_err-at-clause-output : goal.returns-in_err-at-clause-output
returns-in_err-at-clause-output g c = λ first bytes text has counted.
    let now = c.loop-at.invariant.gathered first bytes text has counted in
    let prefix = bytes ++ take c.loop-at.at c.args.chunk.now in
    let more = c.in_err-at.ensures.output first prefix (text ++ now.more) now.has
    (counted_on bytes c.args.chunk.now c.loop-at.at c.args.offset counted
    c.loop-at.invariant.bound) in
    let later = drop (c.loop-at.at + more.0) c.args.chunk.now in
    let are : AreBytes later =
    later_bytes c.args.chunk.now (c.loop-at.at + more.0) (λ i. omega (arith, c.type_inv.chunk i)) in
    let on = c.lines_go_on.ensures first _ _ _ later more.2.has are in
    prints_refused _ _ _ _ _ text now _ _ _ more.2 _ c.from_residual.ensures.1 _ _ on.0 on.1
    (all_bytes bytes c.args.chunk.now c.loop-at.at more.0) on.2

pub returns-clause-output : goal.returns-clause-output
returns-clause-output g c = λ first bytes text has counted.
    let whole = take_all _ c.args.chunk.now c.loop-at-test.false in
    let now = rw whole at (c.loop-at.invariant.gathered first bytes text has counted) in
    let lines = g.met.P.Printer.are_lines first c.loop-at.printer _ (text ++ now.more) now.has in
    prints_out _ _ c.write_out.new.writer _ _ text now _ c.write_out.ensures.output
    c.write_out.ensures.unflushed lines.0 lines.1
