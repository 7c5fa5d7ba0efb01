use Rattle.std.specs.Io.KnownBytes.{Keeps}
use Rattle.dgt_lines.proofs.std_device.write_retrying.Given as goal

abbrev pub invariant-loop : goal.invariant-loop
invariant-loop g l = Keeps (g.T.Write.contents l.fn.writer) (g.T.Write.contents l.writer)
