use Rattle.dgt_link.proofs.{Counting.{counted_holds, counted_in_turn, in_turn_at_quiet, world_in_turn}, PictureHopes.{anew_in_turn, given_up_in_turn, keeps_in_turn, settled_in_turn}}
use Rattle.dgt_link.proofs.RestAfterFaults.{in_turn_at_rest}
use Rattle.dgt_link.proofs.healing.awaited_replies_come.Goals as goal

pub returns : goal.returns
returns c =
    let behind = c.acts_behind_garbage.ensures in
    let laws = c.grammars.ensures in
    record {
      world = world_in_turn;
      anew = anew_in_turn behind laws;
      kept = keeps_in_turn behind laws;
      given_up = given_up_in_turn behind laws;
      counted = λ acts world after answers sane runs turn.
          counted_in_turn _ after (counted_holds laws acts world after answers sane runs) turn;
      settled = settled_in_turn behind laws;
      rested = in_turn_at_rest laws.reads laws.once;
      quiet = in_turn_at_quiet laws.once;
    }
