use Rattle.{std.proofs.Common.{◌≡◌, ◌≤◌, ◌+◌, ◌++◌, length, drop}, dgt_values.specs.Placement.{rank_text_after}}
use Rattle.dgt_values.proofs.placements.push_rank.Given as goal

abbrev pub invariant-loop-piece : goal.invariant-loop-piece
invariant-loop-piece l = record {
  written : l.text.bytes ++ rank_text_after l.empty (drop l.piece-index l.rank) ≡ l.fn.text.bytes
      ++ rank_text_after 0 l.rank;
  run : l.empty ≤ l.piece-index;
  room : length l.text.bytes + l.empty ≤ length l.fn.text.bytes + l.piece-index;
}
