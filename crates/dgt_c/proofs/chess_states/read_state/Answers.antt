use Rattle.dgt_c.proofs.ChessLemmas.{only_state, refused_state}
use Rattle.dgt_c.proofs.chess_states.read_state.Goals as goal

pub returns-in-Ok : goal.returns-in-Ok
returns-in-Ok c = only_state c.one_piece_a_code.ensures _ _ (rw c.in-Ok.is at c.in_ok-state.ensures)

pub returns-in-Err : goal.returns-in-Err
returns-in-Err c =
    refused_state c.one_piece_a_code.ensures c.refused_are_impossible.ensures
    c.states_are_possible.ensures _ c.in-Err.field-0 (rw c.in-Err.is at c.in_ok-state.ensures)
