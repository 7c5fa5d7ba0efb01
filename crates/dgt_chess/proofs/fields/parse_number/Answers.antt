use Rattle.{std.proofs.{Common.{arith, inl, refl}, lemmas.Grind.{common_steps}}, dgt_chess.proofs.Decimals.{number_empty, number_read, number_stops, read_more}}
use Rattle.dgt_chess.proofs.fields.parse_number.Goals as goal

pub loop-at-init : goal.loop-at-init
loop-at-init c = record { small = omega arith; read = inl (refl, refl) }

pub loop-at-preserved : goal.loop-at-preserved
loop-at-preserved c = record {
  small = c.in-Some.ensures.4;
  read = read_more c.as_bytes-bytes.result.now c.loop-at.at c.loop-at.number c.in-Some.next
      (omega arith)
      c.loop-at.invariant.small c.loop-at.invariant.read c.in-Some.ensures.0 c.in-Some.ensures.1
      c.in-Some.ensures.2 c.in-Some.ensures.3;
}

pub returns-in-None : goal.returns-in-None
returns-in-None c = rw (← c.as_bytes-bytes.ensures.value)
    (number_stops c.as_bytes-bytes.result.now c.loop-at.at c.loop-at.number (omega arith)
    c.loop-at.invariant.small c.loop-at.invariant.read c.in-None.ensures)

pub returns-then-is_empty : goal.returns-then-is_empty
returns-then-is_empty c = rw (← c.as_bytes-bytes.ensures.value)
    (number_empty c.as_bytes-bytes.result.now (grind (arith, common_steps)))

pub returns-else-is_empty : goal.returns-else-is_empty
returns-else-is_empty c = rw (← c.as_bytes-bytes.ensures.value)
    (number_read c.as_bytes-bytes.result.now c.loop-at.at c.loop-at.number (omega arith)
    (grind (arith, common_steps)) c.loop-at.invariant.read c.loop-at.invariant.small)
