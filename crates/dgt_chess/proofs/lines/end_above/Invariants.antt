use Rattle.{std.specs.Prelude.{◌<◌, ◌≤◌, ◌-◌, ◌+◌}, dgt_chess.specs.Attacks.{OnLine, IsOpen}}
use Rattle.dgt_chess.proofs.lines.end_above.Given as goal

abbrev pub invariant-loop-line : goal.invariant-loop-line
invariant-loop-line l =
    record {
      above : l.square ≤ l.at;
      small : l.at < 64;
      on : OnLine l.line l.square l.at;
      clear : IsOpen l.line l.pieces l.square (l.at + 1);
    }

abbrev pub decreases-loop-line : goal.decreases-loop-line
decreases-loop-line l = 64 - l.at
