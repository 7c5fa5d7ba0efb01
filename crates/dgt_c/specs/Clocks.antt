-- How C calls report a clock and accept one.
use Rattle.std.specs.Prelude.{◌≡◌, replicate, Option, Some, None}
use Rattle.dgt_message.specs.Clock.{Absence, AreTimes, ClockState, IsAbsence, Time, Times, absence_of, time_of, times_of}
use Rattle.dgt_c.specs.declared.header.DgtClock.{DgtClock}
use Rattle.dgt_c.specs.declared.header.DgtTime.{DgtTime}
use Rattle.dgt_c.specs.declared.header.TheConstants.{CLOCK_NONE, CLOCK_TIMES, UNKNOWN_CLOCK}

abbrev pub time_reported : Time → DgtTime
time_reported time = record {
  hours = time.hours;
  minutes = time.minutes;
  seconds = time.seconds;
  flags = time.flags;
}

-- an unused time
abbrev pub no_time : DgtTime
no_time = time_reported (time_of 0 0 0 0)

-- the struct of this clock
abbrev pub clock_reported : ClockState → DgtClock
clock_reported (ClockState.times readings) = record {
  kind = CLOCK_TIMES;
  status = readings.status;
  raw = replicate 6 0;
  first = time_reported readings.first;
  second = time_reported readings.second;
}
clock_reported (ClockState.no_clock absence) = record {
  kind = CLOCK_NONE;
  status = absence.status;
  raw = absence.raw;
  first = no_time;
  second = no_time;
}

-- the same, or that no clock was reported
abbrev pub clock_if_reported : Option ClockState → DgtClock
clock_if_reported None = UNKNOWN_CLOCK
clock_if_reported (Some clock) = clock_reported clock

abbrev pub time_said : DgtTime → Time
time_said reported = time_of reported.hours reported.minutes reported.seconds reported.flags

abbrev pub times_said : DgtClock → Times
times_said reported =
    times_of (time_said reported.first) (time_said reported.second) reported.status

abbrev pub absence_said : DgtClock → Absence
absence_said reported = absence_of reported.raw reported.status

-- the struct describes this clock, with values in their ranges
abbrev pub SaysClock : DgtClock → ClockState → Type 0
SaysClock said (ClockState.times readings) =
    (said.kind ≡ CLOCK_TIMES) × AreTimes readings × (readings ≡ times_said said)
SaysClock said (ClockState.no_clock absence) =
    (said.kind ≡ CLOCK_NONE) × IsAbsence absence × (absence ≡ absence_said said)
