use Rattle.dgt_link.proofs.Dumps.{order_after_dump, picture_after_dump}
use Rattle.dgt_link.proofs.healing.dumps_are_shown.Goals as goal

pub returns : goal.returns
returns c =
    let behind = c.acts_behind_garbage.ensures in
    let laws = c.grammars.ensures in
    record {
      picture = λ acts world after answers all is dump.
          picture_after_dump behind laws world is dump acts after answers all;
      in_order = λ acts world answers earlier first later square all is dump.
          order_after_dump behind laws world is dump square acts answers earlier first later all;
    }
