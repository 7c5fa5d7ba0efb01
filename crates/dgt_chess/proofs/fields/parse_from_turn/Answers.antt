use Rattle.dgt_chess.{specs.Fen.{IsTurn, IsFromRights}, proofs.{Chain.{some_from_rights}, FieldBytes.{turn_plain}, Stages.{field_wrong, rest_missing, rest_wrong}}}
use Rattle.dgt_chess.proofs.fields.parse_from_turn.Goals as goal

pub returns-in-Err : goal.returns-in-Err
returns-in-Err c =
    field_wrong IsTurn IsFromRights c.args.text.now c.split.result.0.now
    (some_from_rights).0 c.split.result.1 c.in-Err.at
    c.split.ensures.parts c.split.ensures.no_space turn_plain (some_from_rights).1 c.in-Err.ensures

pub returns-in_default : goal.returns-in_default
returns-in_default c =
    rest_missing IsTurn IsFromRights c.args.text.now c.split.result.0.now (some_from_rights).0
    (rw c.in_default.is at c.split.ensures.parts) c.split.ensures.no_space
    (c.in-Ok.turn, c.in-Ok.ensures) (some_from_rights).1

pub returns-in-Err-parse_from_rights : goal.returns-in-Err-parse_from_rights
returns-in-Err-parse_from_rights c =
    rw c.later.ensures
    (rest_wrong IsTurn IsFromRights c.args.text.now c.split.result.0.now c.in-Some.rest.now
    c.in-Err-parse_from_rights.at
    (rw c.in-Some.is at c.split.ensures.parts) c.split.ensures.no_space turn_plain
    (c.in-Ok.turn, c.in-Ok.ensures) c.in-Err-parse_from_rights.ensures)
