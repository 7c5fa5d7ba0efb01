use Rattle.dgt_link.proofs.Standing.{break_is_exact, run_keeps_exact, step_is_world, step_keeps_exact}
use Rattle.dgt_link.proofs.laws.acts_keep.Goals as goal

pub returns : goal.returns
returns c = record {
  sound = step_is_world c.acts_are_moves.ensures.one;
  exact = step_keeps_exact c.acts_are_moves.ensures.one;
  exact_after_all = run_keeps_exact c.acts_are_moves.ensures.all;
  exact_again = break_is_exact c.acts_are_moves.ensures.one;
}
