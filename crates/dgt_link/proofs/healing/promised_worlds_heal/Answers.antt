use Rattle.{dgt_board.specs.State.{updates}, dgt_link.{specs.{Faults.{stops}, Promise.{PictureIsComing}}, proofs.{Hopes.{settled_promised}, PictureHopes.{picture_hope}}}}
use Rattle.dgt_link.proofs.RestAfterFaults.{promised_at_quiet, promised_rests}
use Rattle.dgt_link.proofs.healing.promised_worlds_heal.Goals as goal

pub returns : goal.returns
returns c = record {
  kept = settled_promised c.acts_behind_garbage.ensures updates stops PictureIsComing picture_hope;
  quiet = promised_rests c.grammars.ensures.reads c.grammars.ensures.once;
  picture = promised_at_quiet c.grammars.ensures.once;
}
