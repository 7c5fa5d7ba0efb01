use Rattle.{std.proofs.Common.{◌≤◌, ◌+◌}, dgt_link.specs.{Settling.{SettlesIn}, Work.{work_left}}}
use Rattle.dgt_link.proofs.faulty.FaultyWorld.settle.Given as goal

abbrev pub invariant-loop-done : goal.invariant-loop-done
invariant-loop-done l = record {
  run : SettlesIn l.done l.fn.self l.self;
  most : l.done + work_left l.self ≤ work_left l.fn.self;
}

abbrev pub decreases-loop-done : goal.decreases-loop-done
decreases-loop-done l = work_left l.self
