use Rattle.{std.proofs.Common.{◌≤◌, ◌-◌}, dgt_link.proofs.LineMoves.{IsTaking}}
use Rattle.dgt_link.proofs.moving.to_board.Given as goal

abbrev pub invariant-loop-moved : goal.invariant-loop-moved
invariant-loop-moved l = record {
  most : l.moved ≤ l.most;
  taking : IsTaking l.fn.board l.fn.line l.moved l.board l.line;
}

abbrev pub decreases-loop-moved : goal.decreases-loop-moved
decreases-loop-moved l = l.most - l.moved
