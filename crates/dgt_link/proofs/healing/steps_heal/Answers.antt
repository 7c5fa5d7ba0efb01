use Rattle.{dgt_board.specs.State.{updates}, dgt_link.{specs.{Faults.{stops}, Promise.{PictureIsComing}}, proofs.{Hopes.{asked_follows}, PictureHopes.{anew_heals, dump_promises, keeps_following}}}}
use Rattle.dgt_link.proofs.PictureHopes.{keeps_in_step, keeps_promised, picture_hope}
use Rattle.dgt_link.proofs.healing.steps_heal.Goals as goal

pub returns : goal.returns
returns c =
    let behind = c.acts_behind_garbage.ensures in
    let laws = c.grammars.ensures in
    record {
      anew = anew_heals behind laws;
      in_step = keeps_in_step behind laws;
      asked = asked_follows behind updates stops PictureIsComing picture_hope;
      following = keeps_following behind laws;
      dump = dump_promises behind;
      kept = keeps_promised behind laws;
    }
