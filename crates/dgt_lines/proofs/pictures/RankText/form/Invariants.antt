use Rattle.{std.proofs.Common.{◌≡◌, ◌≤◌, drop, length, take}, dgt_values.specs.Placement.{rank_text_after}, dgt_lines.proofs.RankLemmas.{RankSoFar}}
use Rattle.dgt_lines.proofs.pictures.RankText.form.Given as goal

abbrev pub invariant-loop-piece : goal.invariant-loop-piece
invariant-loop-piece l = record {
  text : RankSoFar (take l.len l.self-inside.bytes) l.was_empty l.last l.piece-index
      (drop l.piece-index l.rank)
      (rank_text_after 0 l.rank);
  long : length l.self-inside.bytes ≡ 16;
  within : l.len ≤ l.piece-index;
}
