use Rattle.dgt_link.proofs.Soundness.{break_exact, move_sound, move_exact}
use Rattle.dgt_link.proofs.laws.moves_keep.Goals as goal

pub returns : goal.returns
returns c = record {
  sound = move_sound;
  exact = move_exact;
  exact_again = break_exact;
}
