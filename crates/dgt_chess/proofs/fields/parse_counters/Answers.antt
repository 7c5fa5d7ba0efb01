use Rattle.dgt_chess.{specs.Fen.{IsNumber}, proofs.{Chain.{some_number}, Decimals.{number_plain}, Stages.{field_wrong, rest_missing, rest_wrong}}}
use Rattle.dgt_chess.proofs.fields.parse_counters.Goals as goal

pub returns-in-Err : goal.returns-in-Err
returns-in-Err c =
    field_wrong IsNumber IsNumber c.args.text.now c.split.result.0.now
    (some_number).0 c.split.result.1 c.in-Err.at
    c.split.ensures.parts c.split.ensures.no_space number_plain (some_number).1 c.in-Err.ensures

pub returns-in_default : goal.returns-in_default
returns-in_default c =
    rest_missing IsNumber IsNumber c.args.text.now c.split.result.0.now (some_number).0
    (rw c.in_default.is at c.split.ensures.parts) c.split.ensures.no_space
    (c.in-Ok.half_moves, c.in-Ok.ensures) (some_number).1

pub returns-in-Err-parse_number : goal.returns-in-Err-parse_number
returns-in-Err-parse_number c =
    rw c.later.ensures
    (rest_wrong IsNumber IsNumber c.args.text.now c.split.result.0.now c.in-Some.rest.now
    c.in-Err-parse_number.at
    (rw c.in-Some.is at c.split.ensures.parts) c.split.ensures.no_space number_plain
    (c.in-Ok.half_moves, c.in-Ok.ensures) c.in-Err-parse_number.ensures)
