use Rattle.dgt_c.proofs.ChessOnceLemmas.{one_fen_put, one_fen_read, one_san_put, one_san_read, one_status, strict_once}
use Rattle.dgt_c.proofs.laws.chess.one_reading.Goals as goal

pub returns-clause-fen : goal.returns-clause-fen
returns-clause-fen c =
    one_fen_read c.one_piece_a_code.ensures c.one_position_a_placement.ensures
    c.refused_are_impossible.ensures c.states_are_possible.ensures
    c.one_first_wrong_byte.ensures.one c.one_first_wrong_byte.ensures.none

pub returns-clause-written : goal.returns-clause-written
returns-clause-written c = one_fen_put c.one_piece_a_code.ensures

pub returns-clause-san : goal.returns-clause-san
returns-clause-san c = one_san_put c.one_piece_a_code.ensures c.one_text_a_move.ensures

pub returns-clause-strict : goal.returns-clause-strict
returns-clause-strict c =
    one_san_read _ c.one_piece_a_code.ensures
    (one_status c.one_piece_a_code.ensures c.refused_are_impossible.ensures
    c.states_are_possible.ensures) (strict_once c.one_move_a_text.ensures)

pub returns-clause-lenient : goal.returns-clause-lenient
returns-clause-lenient c =
    one_san_read _ c.one_piece_a_code.ensures
    (one_status c.one_piece_a_code.ensures c.refused_are_impossible.ensures
    c.states_are_possible.ensures) c.one_lenient_reading.ensures
