use Rattle.dgt_c.proofs.ChessLemmas.{is_legal}
use Rattle.dgt_c.proofs.chess.dgt_chess_is_legal.Goals as goal

pub returns-in-Some : goal.returns-in-Some
returns-in-Some c = is_legal _ _ _ _ c.in-Some.ensures _ c.is_legal.ensures
