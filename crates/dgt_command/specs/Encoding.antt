-- How commands are encoded as bytes, and the command of encoded bytes.
use Rattle.std.specs.Prelude.{◌≡◌, ℕ, ◌+◌, ◌-◌, ◌<◌, ◌==◌, List, [], ◌∷◌, ◌++◌, length, take, drop}
use Rattle.std.specs.Prelude.{slice_index as nth, find, Option, unwrap_or, if◌then◌else◌}
use Rattle.std.specs.Option.{option_map}
use Rattle.dgt_command.specs.declared.command.Command.{Command}
use Rattle.dgt_command.specs.declared.command.Command.TheVariants as command
use Rattle.dgt_command.specs.Content.{CommandContent, Reset, Clock, Dump, Update, UpdateBoard, UpdateNice, Serial, Trademark, Battery, Version, LongSerial, ClockMessage, Leds, command_content}

abbrev pub AreBytes : List ℕ → Type 0
AreBytes bytes = (i : ℕ) → nth bytes i < 256

-- the first byte of each command
abbrev pub command_code : CommandContent → ℕ
command_code (ClockMessage message) = 0x2b
command_code Reset = 0x40
command_code Clock = 0x41
command_code Dump = 0x42
command_code Update = 0x43
command_code UpdateBoard = 0x44
command_code Serial = 0x45
command_code Trademark = 0x47
command_code UpdateNice = 0x4b
command_code Battery = 0x4c
command_code Version = 0x4d
command_code LongSerial = 0x55
command_code (Leds leds) = 0x60

abbrev pub after_code : CommandContent → List ℕ
after_code (ClockMessage message) =
    (length message.payload + 3) ∷ 0x03 ∷ message.id ∷ (message.payload ++ 0x00 ∷ [])
after_code (Leds leds) = length leds ∷ leds
after_code _ = []

abbrev pub command_encoding : CommandContent → List ℕ
command_encoding command = command_code command ∷ after_code command

pub record EncodesCommand (command : CommandContent) (bytes : List ℕ) : Type 0 where
  pub are_bytes : AreBytes bytes
  pub encoded : bytes ≡ command_encoding command

-- these bytes encode some command
abbrev pub IsEncoding : List ℕ → Type 0
IsEncoding bytes = (command : CommandContent) × EncodesCommand command bytes

-- the commands of one byte
abbrev pub bare_commands : List Command
bare_commands =
    command.Reset ∷ command.Clock ∷ command.Dump ∷ command.Update ∷ command.UpdateBoard
    ∷ command.UpdateNice ∷ command.Serial ∷ command.Trademark ∷ command.Battery ∷ command.Version
    ∷ command.LongSerial ∷ []

abbrev pub bare_command : ℕ → Option Command
bare_command code = find (λ each. command_code (command_content each) == code) bare_commands

-- the command that these bytes encode
unfoldable pub command_in : List ℕ → CommandContent
command_in word =
    if nth word 0 == 0x2b then
    ClockMessage (record { id = nth word 3; payload = take (length word - 5) (drop 4 word) })
    else if nth word 0 == 0x60 then Leds (drop 2 word)
    else unwrap_or (option_map command_content (bare_command (nth word 0))) Reset
