use Rattle.dgt_link.proofs.Soundness.{new_exact, new_sound}
use Rattle.dgt_link.proofs.laws.new_is_sound.Goals as goal

pub returns : goal.returns
returns c = record {
  sound = new_sound;
  exact = new_exact;
}
