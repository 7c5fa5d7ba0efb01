-- How other programs read bytes that a board's messages carry: the signals of a clock, the flags of
-- a time, the state of a battery, and texts.
use Rattle.std.specs.Prelude.{◌≡◌, ◌≢◌, ℕ, ◌/◌, ◌%◌, ◌<◌, ◌≤◌, ◌↔◌, ◌⊎◌, IsTrue, IsBitSet, List, length, slice_index as nth, Option, None, Some}
use Rattle.dgt_command.specs.declared.ids.KnownId.{KnownId}
use Rattle.dgt_command.specs.Ids.{id_number}
use Rattle.dgt_names.specs.declared.battery.BatteryState.{BatteryState}
use Rattle.dgt_names.specs.declared.clock.Button.{Button}
use Rattle.dgt_names.specs.declared.clock.Flags.{Flags}
use Rattle.dgt_names.specs.declared.clock.Signal.{Signal}

-- ---- signals

abbrev pub button_byte : Button → ℕ
button_byte Button.Back = 0x31
button_byte Button.Plus = 0x32
button_byte Button.Run = 0x33
button_byte Button.Minus = 0x34
button_byte Button.Ok = 0x35

-- a reply to the message Button, or unasked
abbrev pub IsOfButtons : ℕ → Type 0
IsOfButtons kind = (kind ≡ 0x08) ⊎ (kind ≡ 0x88)

-- the buttons Back and Ok are down
abbrev pub AreEnds : ℕ → Type 0
AreEnds down = IsBitSet down 2 × IsBitSet down 6

-- These buttons are down, and this one was pressed. If that is Ok while Back is down, it is Off.
abbrev pub ArePressed : Signal → (down pressed : ℕ) → Type 0
ArePressed (Signal.Pressed button) down pressed =
    (pressed ≡ button_byte button) × (button ≡ Button.Ok → ¬ (AreEnds down))
ArePressed Signal.Off down pressed = (pressed ≡ button_byte Button.Ok) × AreEnds down
ArePressed _ _ _ = ⊥

abbrev pub IsNoButton : ℕ → Type 0
IsNoButton pressed = (button : Button) → button_byte button ≢ pressed

-- The second, third and fourth byte of an acknowledgement mean this, after a first byte of 10.
abbrev pub Says : Signal → (second third fourth : ℕ) → Type 0
Says (Signal.Version main sub) kind numbers any =
    (kind ≡ 0x09) × (main ≡ numbers / 16) × (sub ≡ numbers % 16)
Says Signal.Ready kind any other = kind ≡ 0x81
Says (Signal.Done KnownId.Button) kind any pressed = (kind ≡ 0x08) × IsNoButton pressed
Says (Signal.Done KnownId.Version) _ _ _ = ⊥
Says (Signal.Done id) kind any other = kind ≡ id_number id
Says signal kind down pressed = IsOfButtons kind × ArePressed signal down pressed

-- the four bytes of an acknowledgement mean this
abbrev pub IsSignal : List ℕ → Signal → Type 0
IsSignal ack signal = (nth ack 0 ≡ 0x10) × Says signal (nth ack 1) (nth ack 2) (nth ack 3)

-- ---- flags

-- these are the flags of a time
abbrev pub AreFlags : ℕ → Flags → Type 0
AreFlags carried flags =
    (IsTrue flags.blocked ↔ IsBitSet carried 0)
    × (IsTrue flags.per_move ↔ IsBitSet carried 1)
    × (IsTrue flags.fallen ↔ IsBitSet carried 2)

-- ---- batteries

-- the number in a byte of a battery message, if it is known
abbrev pub IsKnownAs : ℕ → Option ℕ → Type 0
IsKnownAs byte None = byte ≡ 0x7f
IsKnownAs byte (Some n) = (byte ≢ 0x7f) × (n ≡ byte)

-- these nine bytes mean this
pub record IsBattery (bytes : List ℕ) (state : BatteryState) : Type 0 where
  pub nine : length bytes ≡ 9
  pub percent : IsKnownAs (nth bytes 0) state.percent
  pub hours_left : IsKnownAs (nth bytes 1) state.hours_left
  pub minutes_left : IsKnownAs (nth bytes 2) state.minutes_left
  pub hours_on : state.hours_on ≡ nth bytes 3
  pub minutes_on : state.minutes_on ≡ nth bytes 4
  pub days_resting : state.days_resting ≡ nth bytes 5
  pub hours_resting : state.hours_resting ≡ nth bytes 6
  pub minutes_resting : state.minutes_resting ≡ nth bytes 7
  pub charging : IsTrue state.charging ↔ IsBitSet (nth bytes 8) 0
  pub discharging : IsTrue state.discharging ↔ IsBitSet (nth bytes 8) 1

-- ---- texts

-- printable bytes, at least one
abbrev pub IsText : List ℕ → Type 0
IsText bytes = (0 < length bytes)
    × ((k : ℕ) → k < length bytes → (0x20 ≤ nth bytes k) × (nth bytes k ≤ 0x7e))
