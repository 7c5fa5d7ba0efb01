use Rattle.dgt_chess.proofs.FenAgain.{written_alike}
use Rattle.dgt_chess.proofs.laws.same_moves_same_fen.Goals as goal

pub returns : goal.returns
returns c = written_alike
