use Rattle.std.proofs.{Common.{arith, ◌∙◌, drop, refl, rules, sym, take}, KnownBytes.{Appends-kept}, Math.Seq.{take-add}, lemmas.{Grind.{common_steps}, List.{places, take-append-drop, take_all}}}
use Rattle.std.proofs.lemmas.List.{take_rest}
use Rattle.dgt_lines.proofs.gathering.put.Goals as goal

pub loop-at-preserved : goal.loop-at-preserved
loop-at-preserved g c = grind (arith, common_steps, places, take-add, take_rest)

-- the sink refused after some of the bytes
pub returns-in-Err-clause-output : goal.returns-in-Err-clause-output
returns-in-Err-clause-output g c = let before = c.loop-at.invariant.output in (
  refl,
  record {
    prefix = take c.loop-at.at c.args.bytes.now;
    rest = drop c.loop-at.at c.args.bytes.now;
    whole = sym (take-append-drop c.loop-at.at c.args.bytes.now);
    appends = Appends-kept _ _ _ _ before.appends c.in-Err.ensures.bytes;
    refused = c.in-Err.ensures.refused;
    in_time = λ h. c.write_some.ensures.in_time (before.kept ∙ h) ∙ before.in_time h;
  },
)

pub returns-clause-output : goal.returns-clause-output
returns-clause-output g c = search (rules, take_all)
