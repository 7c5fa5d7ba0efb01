use Rattle.dgt_chess.proofs.FenReads.{written_once}
use Rattle.dgt_chess.proofs.laws.one_written_fen.Goals as goal

pub returns : goal.returns
returns c = written_once c.one_position_a_placement.ensures c.written_text_is_accepted.ensures
