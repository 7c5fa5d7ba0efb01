use Rattle.{std.proofs.Common.{◌≡◌, ◌+◌, ◌*◌, ◌++◌, ◌≤◌, length, take}, dgt_lines.proofs.RankLemmas.{ended_ranks}}
use Rattle.dgt_lines.proofs.pictures.Picture.push.Given as goal

abbrev pub invariant-loop-rank : goal.invariant-loop-rank
invariant-loop-rank g l = record {
  written : l.text ≡ l.fn.text ++ ended_ranks (take l.rank-index l.rank-items);
  short : length l.text ≤ length l.fn.text + 9 * l.rank-index;
}
