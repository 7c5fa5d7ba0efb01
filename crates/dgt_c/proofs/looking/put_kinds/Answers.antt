use Rattle.{std.proofs.Common.{arith, ◌<◌, length}, dgt_values.specs.declared.kinds.Kind.TheVariants.{Dump}, dgt_c.{specs.Kinds.{asking_code}, proofs.Codes.{one_more_in_prefix}}}
use Rattle.dgt_c.proofs.looking.put_kinds.Goals as goal

pub loop-index-preserved : goal.loop-index-preserved
loop-index-preserved c =
    let within : c.loop-index.index < length c.args.kinds.now = omega arith in
    let room : c.loop-index.index < length c.args.codes.now = omega arith in
    rw (c.code_asking_for.ensures, c.loop-index.invariant)
    (one_more_in_prefix asking_code _ _ _ Dump within room)
