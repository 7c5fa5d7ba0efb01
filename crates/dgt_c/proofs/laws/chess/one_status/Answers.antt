use Rattle.dgt_c.proofs.{ChessLemmas.{members_are_listed}, ChessOnceLemmas.{one_status, refused_are_none, statuses_are}}
use Rattle.dgt_c.proofs.laws.chess.one_status.Goals as goal

pub returns-clause-one : goal.returns-clause-one
returns-clause-one c = one_status c.one_piece_a_code.ensures c.refused_are_impossible.ensures
    c.states_are_possible.ensures

pub returns-clause-numbers : goal.returns-clause-numbers
returns-clause-numbers c = statuses_are

pub returns-clause-refused : goal.returns-clause-refused
returns-clause-refused c = refused_are_none c.one_piece_a_code.ensures
    c.refused_are_impossible.ensures c.states_are_possible.ensures

pub returns-clause-listed : goal.returns-clause-listed
returns-clause-listed c = members_are_listed
