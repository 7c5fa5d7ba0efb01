-- The size of a body and its bytes, by a code and a layout of their own.
use Rattle.{std.specs.Prelude.{◌≡◌, ℕ, ◌+◌, ◌<◌, List, length, Option, IfSome, slice_index}, dgt_message.specs.{Code.{known_total}, Layout.{Layout, column_of}, Reading.{Allows}}}
use Rattle.dgt_message.specs.declared.known.KnownCode.{KnownCode}

-- a whole message with this body has the length of the code, if the code fixes one
abbrev pub IsRightSize : Option KnownCode → List ℕ → Type 0
IsRightSize known body = IfSome (known_total known) (λ total. length body + 3 ≡ total)

-- each byte before this place is valid in its place
abbrev pub AllowsBefore : Layout → List ℕ → ℕ → Type 0
AllowsBefore layout body end =
    (place : ℕ) → place < end → Allows (column_of layout place) (slice_index body place)
