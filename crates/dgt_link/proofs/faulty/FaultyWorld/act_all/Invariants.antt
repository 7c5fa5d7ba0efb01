use Rattle.{std.proofs.Common.{◌≤◌, take}, dgt_link.{specs.Faults.{FaultyStep, faulty_content}, proofs.ActRuns.{HasRun}}}
use Rattle.dgt_link.proofs.faulty.FaultyWorld.act_all.Given as goal

abbrev pub invariant-loop-act : goal.invariant-loop-act
invariant-loop-act l = record {
  bounded : l.done ≤ l.act-index;
  run : HasRun FaultyStep faulty_content l.fn.self l.self (take l.act-index l.acts) l.done;
}
