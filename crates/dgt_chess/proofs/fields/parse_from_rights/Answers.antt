use Rattle.dgt_chess.{specs.Fen.{IsRights, IsFromPassed}, proofs.{Chain.{some_from_passed}, FieldBytes.{rights_plain}, Stages.{field_wrong, rest_missing, rest_wrong}}}
use Rattle.dgt_chess.proofs.fields.parse_from_rights.Goals as goal

pub returns-in-Err : goal.returns-in-Err
returns-in-Err c =
    field_wrong IsRights IsFromPassed c.args.text.now c.split.result.0.now
    (some_from_passed).0 c.split.result.1 c.in-Err.at
    c.split.ensures.parts c.split.ensures.no_space rights_plain
    (some_from_passed).1 c.in-Err.ensures

pub returns-in_default : goal.returns-in_default
returns-in_default c =
    rest_missing IsRights IsFromPassed c.args.text.now c.split.result.0.now (some_from_passed).0
    (rw c.in_default.is at c.split.ensures.parts) c.split.ensures.no_space
    (c.in-Ok.rights, c.in-Ok.ensures) (some_from_passed).1

pub returns-in-Err-parse_from_passed : goal.returns-in-Err-parse_from_passed
returns-in-Err-parse_from_passed c =
    rw c.later.ensures
    (rest_wrong IsRights IsFromPassed c.args.text.now c.split.result.0.now c.in-Some.rest.now
    c.in-Err-parse_from_passed.at
    (rw c.in-Some.is at c.split.ensures.parts) c.split.ensures.no_space rights_plain
    (c.in-Ok.rights, c.in-Ok.ensures) c.in-Err-parse_from_passed.ensures)
