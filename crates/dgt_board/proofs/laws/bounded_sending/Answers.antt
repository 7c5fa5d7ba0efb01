use Rattle.dgt_board.proofs.SendingLemmas.{left-at_most, left_is, sending_lowers}
use Rattle.dgt_board.proofs.laws.bounded_sending.Goals as goal

pub returns : goal.returns
returns c = record { parts = left_is; bound = left-at_most; falls = sending_lowers }
