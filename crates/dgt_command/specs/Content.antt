-- Commands and the events of a decoder, without the addresses of their bytes.
use Rattle.std.specs.Prelude.{ℕ, List, [], ◌∷◌, slice_index as nth, Option, Some, None}
use Rattle.dgt_values.specs.declared.kinds.Kind.{Kind}
use Rattle.dgt_command.specs.declared.carried.LedBytes.{LedBytes}
use Rattle.dgt_command.specs.declared.carried.Payload.{Payload}
use Rattle.dgt_command.specs.declared.clock.ClockCommand.{ClockCommand}
use Rattle.dgt_command.specs.declared.clock.ClockCommand.TheVariants as clock
use Rattle.dgt_command.specs.declared.clock.RawClock.{RawClock}
use Rattle.dgt_command.specs.declared.command.Command.{Command}
use Rattle.dgt_command.specs.declared.command.Command.TheVariants as command
use Rattle.dgt_command.specs.declared.command.CommandEvent.{CommandEvent}
use Rattle.dgt_command.specs.declared.command.CommandEvent.TheVariants as event
use Rattle.dgt_command.specs.declared.ids.KnownId.{KnownId}
use Rattle.dgt_command.specs.Ids.{id_number}

-- A clock message by its id and its payload, which determine its variant.
pub record ClockContent : Type 0 where
  pub id : ℕ
  pub payload : List ℕ

pub data CommandContent : Type 0 where
  Reset Clock Dump Update UpdateBoard UpdateNice : CommandContent
  Serial Trademark Battery Version LongSerial : CommandContent
  ClockMessage : ClockContent → CommandContent
  Leds : List ℕ → CommandContent

pub data EventContent : Type 0 where
  Read : CommandContent → EventContent
  BadSize BadStart BadEnd : EventContent
  Stray : ℕ → EventContent

abbrev pub payload_bytes : Payload → List ℕ
payload_bytes payload = payload.bytes.now

abbrev pub led_bytes : LedBytes → List ℕ
led_bytes leds = leds.bytes.now

abbrev pub raw_id : RawClock → ℕ
raw_id raw = raw.id

abbrev pub raw_payload : RawClock → List ℕ
raw_payload raw = payload_bytes raw.payload

abbrev pub known_clock : KnownId → List ℕ → ClockContent
known_clock known payload = record { id = id_number known; payload = payload }

-- the places of a display from left to right are sent in the order C, B, A, F, E, D
abbrev pub display_content : (ℕ → ℕ) → ℕ → ℕ → ClockContent
display_content place dots beep =
    known_clock KnownId.Display
    (place 2 ∷ place 1 ∷ place 0 ∷ place 5 ∷ place 4 ∷ place 3 ∷ dots ∷ beep ∷ [])

abbrev pub clock_content : ClockCommand → ClockContent
clock_content (clock.Display places dots beep) = display_content (λ i. nth places i) dots beep
clock_content (clock.Icons icons) = known_clock KnownId.Icons (payload_bytes icons)
clock_content clock.End = known_clock KnownId.End []
clock_content clock.Button = known_clock KnownId.Button []
clock_content clock.Version = known_clock KnownId.Version []
clock_content (clock.SetAndRun l r control) =
    known_clock KnownId.SetAndRun
    (nth l 0 ∷ nth l 1 ∷ nth l 2 ∷ nth r 0 ∷ nth r 1 ∷ nth r 2 ∷ control ∷ [])
clock_content (clock.Beep duration) = known_clock KnownId.Beep (duration ∷ [])
clock_content (clock.Text l beep) =
    known_clock KnownId.Text
    (nth l 0 ∷ nth l 1 ∷ nth l 2 ∷ nth l 3 ∷ nth l 4 ∷ nth l 5 ∷ nth l 6 ∷ nth l 7 ∷ beep ∷ [])
clock_content (clock.Raw raw) = record { id = raw_id raw; payload = raw_payload raw }

abbrev pub command_content : Command → CommandContent
command_content command.Reset = Reset
command_content command.Clock = Clock
command_content command.Dump = Dump
command_content command.Update = Update
command_content command.UpdateBoard = UpdateBoard
command_content command.UpdateNice = UpdateNice
command_content command.Serial = Serial
command_content command.Trademark = Trademark
command_content command.Battery = Battery
command_content command.Version = Version
command_content command.LongSerial = LongSerial
command_content (command.ClockMessage message) = ClockMessage (clock_content message)
command_content (command.Leds leds) = Leds (led_bytes leds)

abbrev pub command_event_content : CommandEvent → EventContent
command_event_content (event.Command read) = Read (command_content read)
command_event_content event.BadSize = BadSize
command_event_content event.BadStart = BadStart
command_event_content event.BadEnd = BadEnd
command_event_content (event.Stray byte) = Stray byte

-- the kind of the reply that a command requests, if the host awaits it
abbrev pub requested_kind : CommandContent → Option Kind
requested_kind Dump = Some Kind.Dump
requested_kind Serial = Some Kind.Serial
requested_kind Trademark = Some Kind.Trademark
requested_kind Version = Some Kind.Version
requested_kind Battery = Some Kind.Battery
requested_kind LongSerial = Some Kind.LongSerial
requested_kind _ = None
