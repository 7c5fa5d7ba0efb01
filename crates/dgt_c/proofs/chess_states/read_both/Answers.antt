use Rattle.dgt_c.proofs.chess_states.read_both.Goals as goal

pub returns-in_err-state : goal.returns-in_err-state
returns-in_err-state c =
    rw c.from_residual.ensures (λ state one says moves. c.in_err-state.ensures (state, says))
