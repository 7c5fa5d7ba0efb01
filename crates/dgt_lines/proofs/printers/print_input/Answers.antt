use Rattle.{std.proofs.{Common.{[], Err, append-nil, arith, rules}, lemmas.List.{length-take-le}}, dgt_lines.proofs.Printed.{printed_end, printed_more, printed_none, printed_stopped}}
use Rattle.dgt_lines.proofs.TurnLemmas.{no_read, next_read}
use Rattle.dgt_lines.proofs.printers.print_input.Goals as goal

pub loop-init : goal.loop-init
loop-init g c = record {
  in_turns = no_read (c.writes_in_a_row.ensures.nothing _) (λ h. h);
  printed = printed_none c.writes_in_a_row.ensures _ c.requires.begins;
  empty = c.requires.empty;
  short = omega arith;
}

pub returns-then-given-eq0-clause-output : goal.returns-then-given-eq0-clause-output
returns-then-given-eq0-clause-output g c =
    let printed = c.loop.invariant.printed in
    let end = c.print_end.ensures.output _ _ _ printed.has printed.counted in
    printed_end c.writes_in_a_row.ensures _ _ _ _ c.loop.invariant.in_turns printed
    (rw c.if-given-eq0.true at c.in-Ok.ensures.bytes.0) end.1 end.2

pub returns-in_err-print_chunk-clause-output : goal.returns-in_err-print_chunk-clause-output
returns-in_err-print_chunk-clause-output g c =
    let printed = c.loop.invariant.printed in
    let chunk = c.in_err-print_chunk.ensures.output _ _ _ printed.has printed.counted in
    printed_stopped c.writes_in_a_row.ensures _ _ _ _ _ _ _ c.loop.invariant.in_turns printed
    c.in-Ok.ensures.bytes.0 chunk.has c.from_residual.ensures.1 chunk.writes

pub returns-in_err-flush-clause-output : goal.returns-in_err-flush-clause-output
returns-in_err-flush-clause-output g c =
    let printed = c.loop.invariant.printed in
    let chunk = c.in_ok-print_chunk.ensures.output _ _ _ printed.has printed.counted in
    printed_stopped c.writes_in_a_row.ensures _ _ _ _ _ _ _ c.loop.invariant.in_turns printed
    c.in-Ok.ensures.bytes.0 chunk.has c.from_residual-in_err-flush.ensures.1
    (rw append-nil at (c.writes_in_a_row.ensures.writes _ _ _ _ [] (Err _) chunk.writes
    c.in_err-flush.ensures.output))

pub loop-preserved : goal.loop-preserved
loop-preserved g c =
    let read = c.in-Ok.ensures in
    let printed = c.loop.invariant.printed in
    let chunk = c.in_ok-print_chunk.ensures.output _ _ _ printed.has printed.counted in
    let flushed = c.in_ok-flush.ensures in record {
      in_turns = search (rules, next_read);
      printed = printed_more c.writes_in_a_row.ensures _ _ _ _ _ _ _ _ _ printed
          (length-take-le c.in-Ok.given c.read_some.new.buffer read.bound) chunk.writes
          flushed.output chunk.keeps;
      empty = c.in_ok-print_chunk.ensures.empty;
      short = omega (arith, read.bound, c.read_some.auto.buffer);
    }

pub returns-clause-output : goal.returns-clause-output
returns-clause-output g c =
    let turns = c.loop.invariant.in_turns in
    let printed = c.loop.invariant.printed in
    let lines = g.met.P.Printer.are_lines _ _ _ _ printed.has in (search rules)
