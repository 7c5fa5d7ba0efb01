use Rattle.{std.proofs.Common.{ℕ, ◌<◌}, dgt_chess.specs.San.{IsRival}}
use Rattle.dgt_chess.proofs.state.State.has_rival.Given as goal

abbrev pub invariant-loop-other : goal.invariant-loop-other
invariant-loop-other l =
    (k : ℕ) → k < l.other → ¬ (IsRival l.man l.self l.a l.b k)
