use Rattle.dgt_chess.proofs.laws.states_are_possible.Goals as goal

pub returns : goal.returns
returns c = λ state. state.possible
