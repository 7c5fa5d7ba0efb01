use Rattle.dgt_c.proofs.{ChessLemmas.{one_move, one_state}, ChessOnceLemmas.{one_kind, one_move_struct, one_state_struct}}
use Rattle.dgt_c.proofs.laws.chess.one_struct.Goals as goal

pub returns-clause-state : goal.returns-clause-state
returns-clause-state c = one_state c.one_piece_a_code.ensures

pub returns-clause-kind : goal.returns-clause-kind
returns-clause-kind c = one_kind c.one_piece_a_code.ensures

pub returns-clause-move_in : goal.returns-clause-move_in
returns-clause-move_in c = one_move

pub returns-clause-state_struct : goal.returns-clause-state_struct
returns-clause-state_struct c = one_state_struct

pub returns-clause-move_struct : goal.returns-clause-move_struct
returns-clause-move_struct c = one_move_struct
