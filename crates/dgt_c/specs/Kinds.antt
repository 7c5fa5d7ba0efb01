-- How C calls report the kinds of replies.
use Rattle.std.specs.Prelude.{ℕ}
use Rattle.dgt_values.specs.declared.kinds.Kind.{Kind}
use Rattle.dgt_command.specs.Content.CommandContent.{Battery, Dump, LongSerial, Serial, Trademark, Version}
use Rattle.dgt_command.specs.Encoding.{command_code}

-- the byte of the command that requests a reply of this kind
abbrev pub asking_code : Kind → ℕ
asking_code Kind.Dump = command_code Dump
asking_code Kind.Serial = command_code Serial
asking_code Kind.Trademark = command_code Trademark
asking_code Kind.Version = command_code Version
asking_code Kind.Battery = command_code Battery
asking_code Kind.LongSerial = command_code LongSerial
