use Rattle.{std.proofs.{Common.{arith}, lemmas.Grind.{common_steps}}, dgt_command.proofs.ReaderLemmas.{partial_limit}}
use Rattle.dgt_command.proofs.framer.add_each.Goals as goal

pub is_whole-requires : goal.is_whole-requires
is_whole-requires c =
    let kept = c.push.ensures.kept (partial_limit _ c.loop-i.invariant.partial) in
    grind (arith, common_steps)

pub returns-then-is_whole : goal.returns-then-is_whole
returns-then-is_whole c =
    let kept = c.push.ensures.kept (partial_limit _ c.loop-i.invariant.partial) in
    grind (arith, common_steps)

pub loop-i-preserved : goal.loop-i-preserved
loop-i-preserved c =
    let kept = c.push.ensures.kept (partial_limit _ c.loop-i.invariant.partial) in
    grind (arith, common_steps)
