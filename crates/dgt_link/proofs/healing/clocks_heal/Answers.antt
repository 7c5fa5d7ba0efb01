use Rattle.{dgt_board.specs.State.{follows_clock}, dgt_link.{specs.{Clocks.{ClockIsComing, IsClockPromisedWorld, stops_clock}, Faults.{FaultyStep}}, proofs.ActRuns.{run_keeps}}}
use Rattle.dgt_link.proofs.{ClockHopes.{clock_at_quiet, clock_hope, clock_owed_promises, clock_promises, keeps_clock_following, keeps_clock_promised}, Hopes.{asked_follows, settled_promised}}
use Rattle.dgt_link.proofs.RestAfterFaults.{clock_at_rest}
use Rattle.dgt_link.proofs.healing.clocks_heal.Goals as goal

pub returns : goal.returns
returns c =
    let behind = c.acts_behind_garbage.ensures in
    let laws = c.grammars.ensures in
    record {
      asked = asked_follows behind follows_clock stops_clock ClockIsComing clock_hope;
      owed = clock_owed_promises behind;
      following = keeps_clock_following behind;
      reading = clock_promises behind;
      kept = keeps_clock_promised behind;
      settled = settled_promised behind follows_clock stops_clock ClockIsComing clock_hope;
      kept_by_all = λ acts world after answers calm is runs.
          run_keeps FaultyStep _ IsClockPromisedWorld
          (λ act old new answer quiet.
          keeps_clock_promised behind act old new answer quiet.0 quiet.1) acts world after
          answers calm is runs;
      clock = clock_at_quiet laws.once;
      rested = clock_at_rest laws.reads laws.once;
    }
