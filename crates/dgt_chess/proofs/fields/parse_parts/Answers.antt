use Rattle.{dgt_chess.{specs.Fen.{IsFromTurn, IsPieces}, proofs.{Chain.{some_from_turn, wrong_fen}, FieldBytes.{pieces_plain, wrong_pieces}}}, dgt_values.specs.Board.{pieces_of}}
use Rattle.dgt_chess.proofs.Stages.{field_wrong, rest_missing, rest_wrong}
use Rattle.dgt_chess.proofs.fields.parse_parts.Goals as goal

pub returns-in-Err : goal.returns-in-Err
returns-in-Err c =
    wrong_fen c.args.text.now c.in-Err.bad.at
    (field_wrong IsPieces IsFromTurn c.args.text.now c.split.result.0.now
    (some_from_turn).0 c.split.result.1 c.in-Err.bad.at
    c.split.ensures.parts c.split.ensures.no_space pieces_plain (some_from_turn).1
    (wrong_pieces c.split.result.0.now c.in-Err.bad.at c.in-Err.ensures))

pub returns-in_default : goal.returns-in_default
returns-in_default c =
    wrong_fen c.args.text.now _
    (rest_missing IsPieces IsFromTurn c.args.text.now c.split.result.0.now (some_from_turn).0
    (rw c.in_default.is at c.split.ensures.parts) c.split.ensures.no_space
    (pieces_of c.in-Ok.position, c.in-Ok.ensures) (some_from_turn).1)

pub returns-in-Err-parse_from_turn : goal.returns-in-Err-parse_from_turn
returns-in-Err-parse_from_turn c =
    rw c.later.ensures
    (wrong_fen c.args.text.now _
    (rest_wrong IsPieces IsFromTurn c.args.text.now c.split.result.0.now c.in-Some.rest.now
    c.in-Err-parse_from_turn.at
    (rw c.in-Some.is at c.split.ensures.parts) c.split.ensures.no_space pieces_plain
    (pieces_of c.in-Ok.position, c.in-Ok.ensures) c.in-Err-parse_from_turn.ensures))
