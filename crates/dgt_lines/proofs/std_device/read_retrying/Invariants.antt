use Rattle.std.{proofs.Common.{◌≡◌, length}, specs.Io.KnownBytes.{Keeps}}
use Rattle.dgt_lines.proofs.std_device.read_retrying.Given as goal

abbrev pub invariant-loop : goal.invariant-loop
invariant-loop g l = (length l.buffer ≡ length l.fn.buffer) × Keeps (g.T.Read.remaining l.fn.reader)
    (g.T.Read.remaining l.reader)
