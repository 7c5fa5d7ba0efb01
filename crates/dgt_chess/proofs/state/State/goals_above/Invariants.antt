use Rattle.{std.specs.Prelude.{ℕ, ◌<◌, ◌≤◌, ◌-◌, IsBitSet}, dgt_chess.specs.{Attacks.{OnLine, IsFree}, Rules.{board, CanGo}, Steps.{AreGoals}}}
use Rattle.dgt_chess.proofs.state.State.goals_above.Given as goal

abbrev pub invariant-loop-line : goal.invariant-loop-line
invariant-loop-line l =
    record {
      above : l.mover.from ≤ l.at;
      small : l.at < 64;
      on : OnLine l.line l.mover.from l.at;
      clear : (s : ℕ) → l.mover.from < s → s ≤ l.at → OnLine l.line l.mover.from s
          → IsFree (board l.self) s;
      sound : AreGoals l.self l.mover.from l.goals;
      whole : (to : ℕ) → l.mover.from < to → to ≤ l.at → OnLine l.line l.mover.from to
          → CanGo l.self l.mover.from to → IsBitSet l.goals to;
    }

abbrev pub decreases-loop-line : goal.decreases-loop-line
decreases-loop-line l = 64 - l.at
