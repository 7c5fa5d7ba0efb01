use Rattle.std.proofs.{Common.{rules}, lemmas.{Simd.{leading_from_mask_l, trailing_mask_l}, List.Sums.{prefix_len-le-length}}}
use Rattle.dgt_decode.proofs.lanes.first_top_lane.Goals as goal

pub returns-then-tops-eq0 : goal.returns-then-tops-eq0
returns-then-tops-eq0 c = search (rules, leading_from_mask_l)

pub returns-else-tops-eq0 : goal.returns-else-tops-eq0
returns-else-tops-eq0 c = search (rules, trailing_mask_l, prefix_len-le-length)
