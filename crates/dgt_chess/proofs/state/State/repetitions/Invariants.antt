use Rattle.{std.proofs.Common.{ℕ, ◌+◌, ◌≤◌, drop}, dgt_chess.specs.Draws.{Repeats}}
use Rattle.dgt_chess.proofs.state.State.repetitions.Given as goal

abbrev pub invariant-loop-one : goal.invariant-loop-one
invariant-loop-one l = record {
  few : l.count ≤ l.one-index;
  rest : (m : ℕ) → Repeats (drop l.one-index l.history) l.self m
      → Repeats l.history l.self (l.count + m);
}
