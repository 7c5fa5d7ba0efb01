use Rattle.dgt_link.proofs.AfterMoves.{moves_sound, moves_exact, moves_promise, moves_picture}
use Rattle.dgt_link.proofs.laws.picture_after_moves.Goals as goal

pub returns : goal.returns
returns c = record {
  sound = moves_sound;
  exact = moves_exact;
  promised = moves_promise;
  picture = moves_picture;
}
