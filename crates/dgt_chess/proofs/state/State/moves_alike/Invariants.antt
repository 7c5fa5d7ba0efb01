use Rattle.{std.{proofs.Common.{ℕ, ◌<◌}, specs.Prelude.{◌↔◌}}, dgt_chess.specs.Rules.{CanGo}}
use Rattle.dgt_chess.proofs.state.State.moves_alike.Given as goal

abbrev pub invariant-loop-a : goal.invariant-loop-a
invariant-loop-a l = (from to : ℕ) → from < l.a → to < 64
    → CanGo l.self from to ↔ CanGo l.other from to
