use Rattle.{std.proofs.Common.{ℕ, ◌<◌, ◌≤◌}, dgt_chess.specs.Draws.{IsBare}}
use Rattle.dgt_chess.proofs.draws.find_man.Given as goal

abbrev pub invariant-loop-square : goal.invariant-loop-square
invariant-loop-square l = (s : ℕ) → l.from ≤ s → s < l.square → IsBare l.pieces s
