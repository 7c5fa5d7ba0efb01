use Rattle.{std.proofs.Common.{◌≡◌, ◌≤◌, ◌*◌, []}, dgt_lines.proofs.{Printed.{Printed}, TurnLemmas.{BetweenReads}}}
use Rattle.dgt_lines.proofs.printers.print_input.Given as goal

abbrev pub invariant-loop : goal.invariant-loop
invariant-loop g l = record {
  in_turns : BetweenReads g.R.Source g.W.Sink l.fn.reader l.reader l.fn.writer l.writer l.counter
      l.fn.limit;
  printed : Printed g.W.Sink l.fn.writer l.writer (g.P.Printer.has_printed l.fn.printer l.printer)
      l.offset
      in_turns.bytes;
  empty : l.outgoing ≡ [];
  short : l.offset ≤ 4096 * l.counter;
}
