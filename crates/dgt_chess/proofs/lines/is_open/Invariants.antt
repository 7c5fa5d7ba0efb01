use Rattle.{std.specs.Prelude.{◌<◌, ◌-◌, ◌+◌}, dgt_chess.specs.Attacks.{OnLine, IsOpen}}
use Rattle.dgt_chess.proofs.lines.is_open.Given as goal

abbrev pub invariant-loop-at : goal.invariant-loop-at
invariant-loop-at l =
    record {
      above : l.low < l.at;
      on : l.at < l.high → OnLine l.line l.low l.at;
      clear : IsOpen l.line l.pieces l.low l.at;
    }

abbrev pub decreases-loop-at : goal.decreases-loop-at
decreases-loop-at l = l.high + 9 - l.at
