-- Runs and devices with literal numbers, for laws.
use Rattle.std.specs.Prelude.{◌≡◌, true, false, Result}
use Rattle.dgt_lines.specs.declared.faults.RunFault.{RunFault}
use Rattle.dgt_lines.specs.declared.streams.Source.{Ghosts as Source}
use Rattle.dgt_lines.specs.declared.streams.Sink.{Ghosts as Sink}
use Rattle.dgt_lines.specs.Turns.{RunsInTurns, change}

-- A run of at most three turns returned this result. Before it the source was read seven times, no
-- call was refused, no read gave the end, no call was late, and no bytes waited for a flush.
pub record RunsThreeTurns {S T : Type 0} (R : Source S) (W : Sink T) (a b : S) (c d : T)
    (r : Result (Unit {0}) RunFault) : Type 0 where
  pub reads : R.reads a ≡ 7
  pub source_stands : R.failed a ≡ false
  pub goes_on : R.ended a ≡ false
  pub source_in_time : R.late a ≡ false
  pub sink_stands : W.failed c ≡ false
  pub sink_in_time : W.late c ≡ false
  pub flushed : W.flushed c ≡ true
  pub in_turns : RunsInTurns R W (change a b) (change c d) 3 r
