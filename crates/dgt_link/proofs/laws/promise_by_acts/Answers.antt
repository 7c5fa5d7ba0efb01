use Rattle.dgt_link.proofs.PromisedActs.{anew_begins, half_begins, half_ends, half_keeps, mode_is}
use Rattle.dgt_link.proofs.laws.promise_by_acts.Goals as goal

pub returns : goal.returns
returns c = record {
  begun = half_begins c.acts_are_moves.ensures.one c.worlds_stand_for_one_state.ensures;
  kept = half_keeps c.acts_are_moves.ensures.one c.worlds_stand_for_one_state.ensures;
  mode = mode_is c.acts_are_moves.ensures.one c.worlds_stand_for_one_state.ensures;
  ended = half_ends c.acts_are_moves.ensures.one c.worlds_stand_for_one_state.ensures;
  begun_anew = anew_begins c.acts_are_moves.ensures.one c.worlds_stand_for_one_state.ensures;
}
