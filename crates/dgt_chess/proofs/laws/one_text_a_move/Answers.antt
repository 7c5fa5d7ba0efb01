use Rattle.dgt_chess.proofs.SanLaws.{one_text}
use Rattle.dgt_chess.proofs.laws.one_text_a_move.Goals as goal

pub returns : goal.returns
returns c = one_text
