use Rattle.{std.{proofs.Common.{ℕ, ◌<◌}, specs.Prelude.{◌↔◌, slice_index, IsBitSet}}, dgt_chess.specs.Rules.{CanGo}}
use Rattle.dgt_c.proofs.chess.put_goals.Given as goal

abbrev pub invariant-loop-from : goal.invariant-loop-from
invariant-loop-from l = (k to : ℕ) → k < l.from → to < 64
    → IsBitSet (slice_index l.goals k) to ↔ CanGo l.state k to
