-- The identity and the clock of the simulated boards.
use Rattle.std.specs.Prelude.{[], ◌∷◌, codes}
use Rattle.dgt_message.specs.Clock.{ClockState, time_of, times_of}
use Rattle.dgt_board.specs.State.{IdentityContent}

abbrev pub simulated_identity : IdentityContent
simulated_identity = record {
  serial = codes "00001";
  trademark = codes "SIMULATED BOARD";
  main = 1;
  sub = 3;
  battery = 0x64 ∷ [];
  clock_version = 0x14;
  long_serial = codes "0000000001";
}

-- 0:00:00 for both players
abbrev pub simulated_times : ClockState
simulated_times = ClockState.times (times_of (time_of 0 0 0 0) (time_of 0 0 0 0) 0)
