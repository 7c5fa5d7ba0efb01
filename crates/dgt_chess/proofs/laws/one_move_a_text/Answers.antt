use Rattle.dgt_chess.proofs.SanLaws.{one_move}
use Rattle.dgt_chess.proofs.laws.one_move_a_text.Goals as goal

pub returns : goal.returns
returns c = one_move
