use Rattle.dgt_link.proofs.KnownPictures.{known_behind, reported_by, was_reported}
use Rattle.dgt_link.proofs.healing.pictures_were_reported.Goals as goal

pub returns : goal.returns
returns c = record {
  moves = was_reported;
  acts = reported_by c.acts_behind_garbage.ensures;
  known = known_behind;
}
