use Rattle.dgt_c.proofs.ChessLemmas.{of_none, of_state}
use Rattle.dgt_c.proofs.chess.dgt_chess_is_seventy_five_moves.Goals as goal

pub returns-in-Some : goal.returns-in-Some
returns-in-Some c = of_state _ _ _ c.in-Some.ensures _ c.is_seventy_five_moves.ensures

pub returns-in-None : goal.returns-in-None
returns-in-None c = of_none _ _ c.in-None.ensures
