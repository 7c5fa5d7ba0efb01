use Rattle.dgt_chess.proofs.FenLaws.{one_state}
use Rattle.dgt_chess.proofs.laws.one_state_a_fen.Goals as goal

pub returns : goal.returns
returns c = one_state c.one_position_a_placement.ensures
