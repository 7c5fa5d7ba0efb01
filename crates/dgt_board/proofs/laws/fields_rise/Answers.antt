use Rattle.dgt_board.proofs.RisingLemmas.{lower_same}
use Rattle.dgt_board.proofs.laws.fields_rise.Goals as goal

pub returns : goal.returns
returns c = lower_same
