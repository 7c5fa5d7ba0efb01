use Rattle.{std.{proofs.Common.{ℕ, ◌<◌}, specs.Prelude.{◌↔◌}}, dgt_chess.specs.Rules.{CanGo}}
use Rattle.dgt_chess.proofs.state.State.leaves_alike.Given as goal

abbrev pub invariant-loop-b : goal.invariant-loop-b
invariant-loop-b l = (to : ℕ) → to < l.b → CanGo l.self l.a to ↔ CanGo l.other l.a to
