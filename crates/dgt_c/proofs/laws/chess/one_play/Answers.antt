use Rattle.dgt_c.proofs.{ChessLemmas.{of_legal, only_move, only_state}, ChessOnceLemmas.{one_lead, one_play}}
use Rattle.dgt_c.proofs.laws.chess.one_play.Goals as goal

pub returns-clause-play : goal.returns-clause-play
returns-clause-play c = one_play c.one_piece_a_code.ensures c.one_state_after.ensures

pub returns-clause-played : goal.returns-clause-played
returns-clause-played c = λ said new move h. (h.0, h.1, h.4, h.5, (h.2, h.7))

pub returns-clause-legal : goal.returns-clause-legal
returns-clause-legal c = λ said move state one says moves.
    of_legal said move state one (only_state c.one_piece_a_code.ensures said state says)
    (only_move move one moves)

pub returns-clause-lead : goal.returns-clause-lead
returns-clause-lead c = one_lead c.one_piece_a_code.ensures c.one_move_a_picture.ensures

pub returns-clause-goals : goal.returns-clause-goals
returns-clause-goals c = λ state goals from to a b are. are from to a b
