use Rattle.dgt_c.proofs.ChessLemmas.{of_none, of_state}
use Rattle.dgt_c.proofs.chess.dgt_chess_is_repeated.Goals as goal

pub returns-in-Some-read_state : goal.returns-in-Some-read_state
returns-in-Some-read_state c =
    of_state _ _ _ c.in-Some.ensures _
    (of_state _ _ _ c.in-Some-read_state.ensures _ c.is_repeated.ensures)

pub returns-in-None-read_state : goal.returns-in-None-read_state
returns-in-None-read_state c =
    of_state _ _ _ c.in-Some.ensures _ (of_none _ _ c.in-None-read_state.ensures)

pub returns-in-None : goal.returns-in-None
returns-in-None c = of_none _ _ c.in-None.ensures
