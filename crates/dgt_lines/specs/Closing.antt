-- The closing lines of a board and a host.
use Rattle.std.specs.Prelude.{ℕ, List, [], ◌∷◌, ◌++◌, Bool, true, false, Option, Some, None, codes}
use Rattle.dgt_values.specs.declared.pieces.Piece.{Piece}
use Rattle.dgt_values.specs.Placement.{placement_text}
use Rattle.dgt_message.specs.Clock.{ClockState}
use Rattle.dgt_message.specs.Content.{clock_message}
use Rattle.dgt_lines.specs.Lines.{message_text, words_text}

-- a name, a space, a text and a line feed
abbrev pub named_line : List ℕ → List ℕ → List ℕ
named_line name text = words_text (name ∷ text ∷ []) ++ codes "\n"

-- the placement of a picture, if it is known
abbrev pub picture_text : Option (List Piece) → List ℕ
picture_text None = codes "unknown"
picture_text (Some pieces) = placement_text pieces

-- the text of the message of a clock, if the clock is known
abbrev pub clock_text : Option ClockState → List ℕ
clock_text None = codes "unknown"
clock_text (Some clock) = message_text (clock_message clock)

abbrev pub quiet_text : Bool → List ℕ
quiet_text true = codes "yes"
quiet_text false = codes "no"

-- the board's position, the host's picture and clock, and whether the world is quiet
unfoldable pub closing_text : List Piece → Option (List Piece) → Option ClockState → Bool → List ℕ
closing_text squares picture clock quiet =
    named_line (codes "board") (placement_text squares)
    ++ named_line (codes "host") (picture_text picture)
    ++ named_line (codes "hostclock") (clock_text clock)
    ++ named_line (codes "quiet") (quiet_text quiet)
