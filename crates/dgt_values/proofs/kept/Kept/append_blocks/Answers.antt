use Rattle.{std.proofs.Common.{arith}, dgt_values.proofs.Lanes.{copied_none, copied_more}}
use Rattle.dgt_values.proofs.kept.Kept.append_blocks.Goals as goal

pub loop-at-init : goal.loop-at-init
loop-at-init g c =
    copied_none c.self.inside.bytes c.args.bytes.now c.self.inside.len c.min-most.result

pub overflow_sub-most : goal.overflow_sub-most
overflow_sub-most g c = c.loop-at.invariant.within

pub loop-at-preserved : goal.loop-at-preserved
loop-at-preserved g c =
    copied_more c.self.inside.bytes c.args.bytes.now c.loop-at.self-inside.bytes c.self.inside.len
    c.min-most.result
    c.loop-at.at (omega (arith, c.min-most.ensures, c.self.told, c.self.invariant))
    (omega (arith, c.min-most.ensures))
    c.loop-at-test.true (c.top_bits.ensures c.if-top_bits-ne0.false)
    (c.top_bits-else-top_bits-ne0.ensures c.if-top_bits-ne0-2.false) c.loop-at.invariant

pub overflow_add-self : goal.overflow_add-self
overflow_add-self g c =
    omega (arith, c.loop-at.invariant.within, c.min-most.ensures, c.self.invariant, g.ROOM.fits)

pub invariant_of-self : goal.invariant_of-self
invariant_of-self g c =
    omega (arith, c.loop-at.invariant.within, c.min-most.ensures, c.self.invariant)

pub returns-clause-within : goal.returns-clause-within
returns-clause-within g c = omega (arith, c.loop-at.invariant.within, c.min-most.ensures)

pub returns-clause-seven_bit : goal.returns-clause-seven_bit
returns-clause-seven_bit g c = c.loop-at.invariant.clear

pub returns-clause-kept : goal.returns-clause-kept
returns-clause-kept g c = rw (← c.self.view_is) c.loop-at.invariant.copied
