use Rattle.{std.proofs.Common.{ℕ, ◌<◌}, dgt_chess.specs.Draws.{FitsShade}}
use Rattle.dgt_chess.proofs.draws.has_bishops.Given as goal

abbrev pub invariant-loop-square : goal.invariant-loop-square
invariant-loop-square l = (k : ℕ) → k < l.square → FitsShade l.pieces l.shade k
