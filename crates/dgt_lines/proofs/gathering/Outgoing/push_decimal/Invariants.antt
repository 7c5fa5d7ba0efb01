use Rattle.{std.proofs.Common.{◌≡◌, ◌-◌, ◌^◌, ◌<◌, ◌≤◌, ◌++◌, drop, length}, dgt_lines.proofs.DecimalLemmas.{prefix}}
use Rattle.dgt_lines.proofs.gathering.Outgoing.push_decimal.Given as goal

abbrev pub invariant-loop-rest : goal.invariant-loop-rest
invariant-loop-rest g l = record {
  within : l.at ≤ 20;
  short : l.rest < 10 ^ l.at;
  fits : l.rest < 2 ^ 64;
  room : length l.digits ≡ 20;
  text : prefix l.width l.fn.number ≡ prefix (l.width - (20 - l.at)) l.rest ++ drop l.at l.digits;
}

abbrev pub decreases-loop-rest : goal.decreases-loop-rest
decreases-loop-rest g l = l.at
