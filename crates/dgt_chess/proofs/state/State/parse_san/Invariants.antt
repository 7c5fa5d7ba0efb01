use Rattle.{std.proofs.Common.{ℕ, ◌<◌}, dgt_chess.specs.San.{IsSan}}
use Rattle.dgt_chess.proofs.state.State.parse_san.Given as goal

abbrev pub invariant-loop-a : goal.invariant-loop-a
invariant-loop-a l = (k : ℕ) → k < l.a → ¬ (IsSan l.self k l.r.b l.r.promotion l.text)
