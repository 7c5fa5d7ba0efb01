use Rattle.std.{proofs.Common.{ℕ, ◌<◌}, specs.Prelude.{slice_index}}
use Rattle.dgt_c.proofs.ascii.ascii_len.Given as goal

abbrev pub invariant-loop-index : goal.invariant-loop-index
invariant-loop-index l = (k : ℕ) → k < l.index → slice_index l.text k < 128
