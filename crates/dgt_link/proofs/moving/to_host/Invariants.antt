use Rattle.{std.proofs.Common.{◌≤◌, ◌-◌}, dgt_link.proofs.LineMoves.{IsHearing}}
use Rattle.dgt_link.proofs.moving.to_host.Given as goal

abbrev pub invariant-loop-moved : goal.invariant-loop-moved
invariant-loop-moved l = record {
  most : l.moved ≤ l.most;
  hearing : IsHearing l.fn.host l.fn.line l.moved l.host l.line;
}

abbrev pub decreases-loop-moved : goal.decreases-loop-moved
decreases-loop-moved l = l.most - l.moved
