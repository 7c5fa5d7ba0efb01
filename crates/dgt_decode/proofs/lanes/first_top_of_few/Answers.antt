use Rattle.std.proofs.{Common.{rules}, lemmas.{List.{length-take-le}, Simd.{leading_from_mask_l, trailing_mask_l}}}
use Rattle.dgt_decode.proofs.lanes.first_top_of_few.Goals as goal

pub returns-then-tops-eq0 : goal.returns-then-tops-eq0
returns-then-tops-eq0 c = search (rules, leading_from_mask_l, length-take-le)

pub returns-else-tops-eq0 : goal.returns-else-tops-eq0
returns-else-tops-eq0 c = search (rules, trailing_mask_l, length-take-le)
