use Rattle.dgt_link.proofs.WorldsByState.{world_first_answer, world_fold, world_never_unasked}
use Rattle.dgt_link.proofs.laws.worlds_are_reported.Goals as goal

pub returns : goal.returns
returns c = record {
  fold = world_fold;
  first = world_first_answer;
  asked = world_never_unasked;
}
