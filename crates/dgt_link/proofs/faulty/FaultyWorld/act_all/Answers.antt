use Rattle.{std.proofs.Common.{arith}, dgt_link.{specs.Faults.{FaultyStep, faulty_content}, proofs.ActRuns.{has_run_more}}}
use Rattle.dgt_link.proofs.faulty.FaultyWorld.act_all.Goals as goal

pub loop-act-preserved : goal.loop-act-preserved
loop-act-preserved c = record {
  bounded = omega (arith, c.loop-act.invariant.bounded, c.count-done.ensures.at_most);
  run = has_run_more FaultyStep faulty_content c.args.self.now c.loop-act.self c.act.new.self
      c.args.acts.now c.loop-act.done
      c.count-done.result c.loop-act.act-index c.act-item.result c.act.result c.loop-act-test.true
      c.act-item.is c.loop-act.invariant.run c.act.ensures c.count-done.ensures.count;
}
