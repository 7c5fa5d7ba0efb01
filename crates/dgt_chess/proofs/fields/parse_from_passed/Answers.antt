use Rattle.dgt_chess.{specs.Fen.{IsPassed, AreCounters}, proofs.{Chain.{some_counters}, FieldBytes.{passed_plain}, Stages.{field_wrong, rest_missing, rest_wrong}}}
use Rattle.dgt_chess.proofs.fields.parse_from_passed.Goals as goal

pub returns-in-Err : goal.returns-in-Err
returns-in-Err c =
    field_wrong IsPassed AreCounters c.args.text.now c.split.result.0.now
    (some_counters).0 c.split.result.1 c.in-Err.at
    c.split.ensures.parts c.split.ensures.no_space passed_plain (some_counters).1 c.in-Err.ensures

pub returns-in_default : goal.returns-in_default
returns-in_default c =
    rest_missing IsPassed AreCounters c.args.text.now c.split.result.0.now (some_counters).0
    (rw c.in_default.is at c.split.ensures.parts) c.split.ensures.no_space
    (c.in-Ok.passed, c.in-Ok.ensures) (some_counters).1

pub returns-in-Err-parse_counters : goal.returns-in-Err-parse_counters
returns-in-Err-parse_counters c =
    rw c.later.ensures
    (rest_wrong IsPassed AreCounters c.args.text.now c.split.result.0.now c.in-Some.rest.now
    c.in-Err-parse_counters.at
    (rw c.in-Some.is at c.split.ensures.parts) c.split.ensures.no_space passed_plain
    (c.in-Ok.passed, c.in-Ok.ensures) c.in-Err-parse_counters.ensures)
