use Rattle.{std.proofs.Common.{◌≡◌, ◌≤◌, ◌+◌, ◌-◌, ◌*◌, ◌++◌, length, drop}, dgt_values.{specs.Placement.{placement_text}, proofs.Ranks.{following_ranks}}}
use Rattle.dgt_values.proofs.positions.Position.placement.Given as goal

abbrev pub invariant-loop-rank : goal.invariant-loop-rank
invariant-loop-rank l = record {
  written : l.text.bytes ++ following_ranks (8 - l.rank) (drop (8 * l.rank) l.pieces)
      ≡ placement_text l.pieces;
  room : length l.text.bytes + 1 ≤ 9 * l.rank;
}
