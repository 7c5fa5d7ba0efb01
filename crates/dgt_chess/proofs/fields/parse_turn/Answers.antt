use Rattle.{std.proofs.{Common.{arith}, lemmas.Grind.{common_steps}}, dgt_chess.proofs.FieldBytes.{turn_more}}
use Rattle.dgt_chess.proofs.fields.parse_turn.Goals as goal

pub returns-else-bytes-eq1 : goal.returns-else-bytes-eq1
returns-else-bytes-eq1 c = rw (← c.as_bytes-bytes.ensures.value)
    (turn_more c.as_bytes-bytes.result.now c.in-Some.turn
    (grind (arith, common_steps)) c.in-Some.ensures)
