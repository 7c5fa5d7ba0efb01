-- `==` of commands. An array is a list here, so the definitions apply to lists of the lengths that
-- the types fix.
use Rattle.std.specs.Prelude.{◌≡◌, ℕ, length, Option, IfSome}
use Rattle.std.specs.Option.{option_map}
use Rattle.dgt_command.specs.declared.clock.ClockCommand.{ClockCommand}
use Rattle.dgt_command.specs.declared.clock.ClockCommand.TheVariants as clock
use Rattle.dgt_command.specs.declared.command.Command.{Command}
use Rattle.dgt_command.specs.declared.command.Command.TheVariants as command
use Rattle.dgt_command.specs.declared.command.CommandEvent.{CommandEvent}
use Rattle.dgt_command.specs.declared.command.CommandEvent.TheVariants as event
use Rattle.dgt_command.specs.declared.decoder.CommandFed.{CommandFed}
use Rattle.dgt_command.specs.Content.{EventContent, command_event_content}

-- a display has six places, a clock that is set three bytes on each side, and a text eight letters
abbrev pub HasArrays : ClockCommand → Type 0
HasArrays (clock.Display places dots beep) = length places ≡ 6
HasArrays (clock.SetAndRun left right control) = (length left ≡ 3) × (length right ≡ 3)
HasArrays (clock.Text letters beep) = length letters ≡ 8
HasArrays _ = Unit {0}

-- the same of the clock message in a command, an event or a result
abbrev pub CommandHasArrays : Command → Type 0
CommandHasArrays (command.ClockMessage message) = HasArrays message
CommandHasArrays _ = Unit {0}

abbrev pub EventHasArrays : CommandEvent → Type 0
EventHasArrays (event.Command read) = CommandHasArrays read
EventHasArrays _ = Unit {0}

abbrev pub FedHasArrays : CommandFed → Type 0
FedHasArrays fed = IfSome fed.event EventHasArrays

-- how many bytes were used, and the event
abbrev pub fed_seen : CommandFed → ℕ × Option EventContent
fed_seen fed = (fed.used, option_map command_event_content fed.event)
