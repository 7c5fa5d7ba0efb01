use Rattle.{std.specs.Prelude.{◌<◌, ◌≤◌, ℕ}, dgt_chess.specs.Attacks.{OnLine, IsFree}}
use Rattle.dgt_chess.proofs.lines.end_below.Given as goal

abbrev pub invariant-loop-line : goal.invariant-loop-line
invariant-loop-line l =
    record {
      below : l.at ≤ l.square;
      on : OnLine l.line l.at l.square;
      clear : (s : ℕ) → l.at ≤ s → s < l.square → OnLine l.line s l.square → IsFree l.pieces s;
    }

abbrev pub decreases-loop-line : goal.decreases-loop-line
decreases-loop-line l = l.at
