use Rattle.dgt_link.proofs.Counting.{empty_in_step, sane_if, world_in_step, world_is_faulty}
use Rattle.dgt_link.proofs.healing.worlds_are_in_step.Goals as goal

pub returns : goal.returns
returns c = record {
  in_step = world_in_step;
  faulty = world_is_faulty;
  empty = empty_in_step;
  sane = sane_if;
}
