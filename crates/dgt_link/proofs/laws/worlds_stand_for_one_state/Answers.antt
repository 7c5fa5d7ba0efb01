use Rattle.dgt_link.proofs.OneOutcome.{one_state}
use Rattle.dgt_link.proofs.laws.worlds_stand_for_one_state.Goals as goal

pub returns : goal.returns
returns c = one_state
    (record {
      encodes = c.encoding_encodes.ensures;
      one_message = c.encoded_once.ensures.one_message;
      none_longer = c.encoded_once.ensures.none_longer;
    })
    c.one_division.ensures
