-- The ids of clock messages with a variant of their own, and how many bytes each of them carries.
use Rattle.std.specs.Prelude.{ℕ, Bool, true, false, ◌==◌, List, [], ◌∷◌, find, Option, unwrap_or}
use Rattle.std.specs.Option.{option_map}
use Rattle.dgt_command.specs.declared.ids.KnownId.{KnownId}
use Rattle.dgt_command.specs.declared.ids.KnownId.TheVariants.{Display, Icons, End, Button}
use Rattle.dgt_command.specs.declared.ids.KnownId.TheVariants.{Version, SetAndRun, Beep, Text}

abbrev pub id_number : KnownId → ℕ
id_number Display = 0x01
id_number Icons = 0x02
id_number End = 0x03
id_number Button = 0x08
id_number Version = 0x09
id_number SetAndRun = 0x0a
id_number Beep = 0x0b
id_number Text = 0x0c

abbrev pub known_ids : List KnownId
known_ids = Display ∷ Icons ∷ End ∷ Button ∷ Version ∷ SetAndRun ∷ Beep ∷ Text ∷ []

abbrev pub id_with : ℕ → Option KnownId
id_with number = find (λ id. id_number id == number) known_ids

-- icons have any number of bytes, and every other id a fixed number
abbrev pub has_size : KnownId → ℕ → Bool
has_size Display size = size == 8
has_size Icons size = true
has_size End size = size == 0
has_size Button size = size == 0
has_size Version size = size == 0
has_size SetAndRun size = size == 7
has_size Beep size = size == 1
has_size Text size = size == 9

-- the id is known, and carries this number of bytes
abbrev pub has_own_case : ℕ → ℕ → Bool
has_own_case number size = unwrap_or (option_map (λ id. has_size id size) (id_with number)) false
