-- How C calls report a frame from a host: a struct with a kind that determines which fields are
-- set, and the bytes of a command.
use Rattle.std.specs.Prelude.{◌≡◌, ℕ, List, [], length, Option, Some, None}
use Rattle.dgt_command.specs.Content.{CommandContent, EventContent, Read, BadSize, BadStart, BadEnd, Stray}
use Rattle.dgt_command.specs.Encoding.{command_code, command_encoding}
use Rattle.dgt_c.specs.Slices.{overwritten}
use Rattle.dgt_c.specs.declared.header.DgtCommand.{DgtCommand}
use Rattle.dgt_c.specs.declared.header.TheConstants.{NO_WORD, COMMAND_READ, COMMAND_BAD_SIZE, COMMAND_BAD_START, COMMAND_BAD_END, COMMAND_STRAY}

-- the id of a clock message
abbrev pub id_of : CommandContent → ℕ
id_of (CommandContent.ClockMessage message) = message.id
id_of _ = 0

abbrev pub read_reported : CommandContent → DgtCommand
read_reported command = record NO_WORD {
  kind = COMMAND_READ;
  code = command_code command;
  id = id_of command;
  word_len = length (command_encoding command);
}

-- the struct of this command or fault, or of none
abbrev pub command_reported : Option EventContent → DgtCommand
command_reported None = NO_WORD
command_reported (Some (Read command)) = read_reported command
command_reported (Some BadSize) = record NO_WORD { kind = COMMAND_BAD_SIZE }
command_reported (Some BadStart) = record NO_WORD { kind = COMMAND_BAD_START }
command_reported (Some BadEnd) = record NO_WORD { kind = COMMAND_BAD_END }
command_reported (Some (Stray byte)) = record NO_WORD { kind = COMMAND_STRAY; byte = byte }

-- the bytes of a command
abbrev pub word_said : Option EventContent → List ℕ
word_said (Some (Read command)) = command_encoding command
word_said _ = []

-- The report of a chunk: a struct, and a slice before and after.
pub record CommandReporting : Type 0 where
  pub command : DgtCommand
  pub old : List ℕ
  pub new : List ℕ

-- This event is reported, and as many bytes of a command were copied as fit.
abbrev pub ReportsCommand : Option EventContent → CommandReporting → Type 0
ReportsCommand event reported =
    (reported.command ≡ command_reported event)
    × (reported.new ≡ overwritten reported.old (word_said event))
