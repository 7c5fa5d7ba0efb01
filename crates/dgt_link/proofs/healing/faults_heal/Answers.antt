use Rattle.dgt_link.proofs.{ClockHopes.{clock_healing_promised}, Counting.{counted_holds, follows_in_step, counted_in_turn, in_step_counted_holds, in_turn_at_quiet}}
use Rattle.dgt_link.proofs.RestAfterFaults.{healing_promised, promised_at_quiet}
use Rattle.dgt_link.proofs.healing.faults_heal.Goals as goal

pub returns : goal.returns
returns c =
    let laws = c.grammars.ensures in
    record {
      sane = λ acts world after answers sane runs.
          (counted_holds laws acts world after answers sane runs).sane;
      in_step = λ acts world after answers sane runs in_step.
          follows_in_step _ _ after
          ((counted_holds laws acts world after answers sane runs).follows in_step);
      heals = λ acts world after answers sane runs healing quiet.
          promised_at_quiet laws.once after
          (healing_promised _ after (counted_holds laws acts world after answers sane runs) healing)
          quiet;
      promised = λ acts world after answers sane runs healing.
          healing_promised _ after (counted_holds laws acts world after answers sane runs) healing;
      dump_promised = λ acts world after answers sane runs is healing.
          healing_promised _ after
          (in_step_counted_holds laws acts world after answers sane runs is) healing;
      awaited = λ acts world after answers sane runs turn quiet.
          in_turn_at_quiet laws.once after
          (counted_in_turn _ after (counted_holds laws acts world after answers sane runs) turn)
          quiet;
      dump_heals = λ acts world after answers sane runs is healing quiet.
          promised_at_quiet laws.once after
          (healing_promised _ after
          (in_step_counted_holds laws acts world after answers sane runs is) healing) quiet;
      clock_promised = λ acts world after answers sane runs healing.
          clock_healing_promised _ after (counted_holds laws acts world after answers sane runs)
          healing;
      reading_promised = λ acts world after answers sane runs is healing.
          clock_healing_promised _ after
          (in_step_counted_holds laws acts world after answers sane runs is) healing;
    }
