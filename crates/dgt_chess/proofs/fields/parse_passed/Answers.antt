use Rattle.{std.proofs.{Common.{◌<◌, length, arith}, lemmas.Grind.{common_steps}}, dgt_chess.proofs.FieldBytes.{passed_more}}
use Rattle.dgt_chess.proofs.fields.parse_passed.Goals as goal

pub returns-else-bytes-eq2 : goal.returns-else-bytes-eq2
returns-else-bytes-eq2 c =
    let more : 2 < length c.as_bytes-bytes.result.now = grind (arith, common_steps) in
    rw (← c.as_bytes-bytes.ensures.value)
    (passed_more c.as_bytes-bytes.result.now more c.square_of-square.result
    c.square_of-square.ensures)
