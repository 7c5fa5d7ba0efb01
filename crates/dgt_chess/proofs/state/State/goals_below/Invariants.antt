use Rattle.{std.specs.Prelude.{ℕ, ◌<◌, ◌≤◌, IsBitSet}, dgt_chess.specs.{Attacks.{OnLine, IsFree}, Rules.{board, CanGo}, Steps.{AreGoals}}}
use Rattle.dgt_chess.proofs.state.State.goals_below.Given as goal

abbrev pub invariant-loop-line : goal.invariant-loop-line
invariant-loop-line l =
    record {
      below : l.at ≤ l.mover.from;
      on : OnLine l.line l.at l.mover.from;
      clear : (s : ℕ) → l.at ≤ s → s < l.mover.from → OnLine l.line s l.mover.from
          → IsFree (board l.self) s;
      sound : AreGoals l.self l.mover.from l.goals;
      whole : (to : ℕ) → l.at ≤ to → to < l.mover.from → OnLine l.line l.mover.from to
          → CanGo l.self l.mover.from to → IsBitSet l.goals to;
    }

abbrev pub decreases-loop-line : goal.decreases-loop-line
decreases-loop-line l = l.at
