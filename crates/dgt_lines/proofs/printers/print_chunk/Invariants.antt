use Rattle.{std.proofs.Common.{◌≡◌, ◌≤◌, ◌-◌, ◌++◌, [], ℕ, List, Ok, false, length, take}, dgt_lines.specs.Printing.{GathersMore}}
use Rattle.dgt_lines.proofs.printers.print_chunk.Given as goal

abbrev pub invariant-loop-at : goal.invariant-loop-at
invariant-loop-at g l = record {
  bound : l.at ≤ length l.chunk;
  gathered : (first : g.row.P.Denot) (bytes text : List ℕ)
      → g.P.Printer.has_printed first l.fn.printer bytes text
      → l.offset ≡ length bytes
      → GathersMore {A = Unit {0}} g.W.Sink ([], l.outgoing) l.fn.writer l.writer (Ok tt)
      (g.P.Printer.has_printed first l.printer) (bytes ++ take l.at l.chunk) text;
  no_flush : g.W.Sink.flushed l.fn.writer ≡ false → g.W.Sink.flushed l.writer ≡ false;
}

abbrev pub decreases-loop-at : goal.decreases-loop-at
decreases-loop-at g l = length l.chunk - l.at
