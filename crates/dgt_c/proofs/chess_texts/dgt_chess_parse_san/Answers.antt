use Rattle.std.proofs.Common.{inl}
use Rattle.dgt_c.proofs.chess_texts.dgt_chess_parse_san.Goals as goal

pub returns-in-Some : goal.returns-in-Some
returns-in-Some c =
    let put = c.put_move.ensures in
    inl (_, c.parse_san.result, c.in-Some.ensures.0, c.parse_san.ensures, put.written, put.status)
