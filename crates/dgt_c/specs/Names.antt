-- How C calls report stored items, and the meaning of bytes that messages carry.
use Rattle.std.specs.Prelude.{ℕ, replicate, Option, Some, None}
use Rattle.dgt_values.specs.Board.{piece_code}
use Rattle.dgt_command.specs.Ids.{id_number}
use Rattle.dgt_names.specs.Names.{button_byte}
use Rattle.dgt_names.specs.declared.battery.BatteryState.{BatteryState}
use Rattle.dgt_names.specs.declared.clock.Signal.{Signal}
use Rattle.dgt_stored.specs.Stored.{StoredContent, mark_byte}
use Rattle.dgt_c.specs.Clocks.{time_reported}
use Rattle.dgt_c.specs.Hearing.{flag}
use Rattle.dgt_c.specs.declared.header.DgtBattery.{DgtBattery}
use Rattle.dgt_c.specs.declared.header.DgtSignal.{DgtSignal}
use Rattle.dgt_c.specs.declared.header.DgtStored.{DgtStored}
use Rattle.dgt_c.specs.declared.header.TheConstants.{BATTERY_UNKNOWN, NO_SIGNAL, NO_STORED, SIGNAL_DONE, SIGNAL_VERSION, SIGNAL_PRESSED, SIGNAL_OFF, SIGNAL_READY, STORED_PIECE, STORED_TIME, STORED_MARK, STORED_UNKNOWN}

-- the struct of a stored item
abbrev pub stored_reported : StoredContent → DgtStored
stored_reported (StoredContent.piece square stands bit) = record NO_STORED {
  kind = STORED_PIECE;
  square = square;
  piece = piece_code stands;
  bit = bit;
}
stored_reported (StoredContent.time shown) =
    record NO_STORED { kind = STORED_TIME; time = time_reported shown }
stored_reported (StoredContent.mark marks) =
    record NO_STORED { kind = STORED_MARK; byte = mark_byte marks }
stored_reported (StoredContent.unknown byte) =
    record NO_STORED { kind = STORED_UNKNOWN; byte = byte }

-- the struct of a clock's signal
abbrev pub signal_reported : Signal → DgtSignal
signal_reported (Signal.Done id) = record NO_SIGNAL { kind = SIGNAL_DONE; id = id_number id }
signal_reported (Signal.Version main sub) =
    record NO_SIGNAL { kind = SIGNAL_VERSION; main_number = main; sub_number = sub }
signal_reported (Signal.Pressed button) =
    record NO_SIGNAL { kind = SIGNAL_PRESSED; button = button_byte button }
signal_reported Signal.Off = record NO_SIGNAL { kind = SIGNAL_OFF }
signal_reported Signal.Ready = record NO_SIGNAL { kind = SIGNAL_READY }

abbrev pub number_if_known : Option ℕ → ℕ
number_if_known None = BATTERY_UNKNOWN
number_if_known (Some n) = n

-- the struct of a battery's state
abbrev pub battery_reported : BatteryState → DgtBattery
battery_reported state = record {
  percent = number_if_known state.percent;
  hours_left = number_if_known state.hours_left;
  minutes_left = number_if_known state.minutes_left;
  hours_on = state.hours_on;
  minutes_on = state.minutes_on;
  days_resting = state.days_resting;
  hours_resting = state.hours_resting;
  minutes_resting = state.minutes_resting;
  charging = flag state.charging;
  discharging = flag state.discharging;
  reserved = replicate 6 0;
}
