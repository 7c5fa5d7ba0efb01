-- Closing lines in parts.
use Rattle.{std.proofs.Common.{◌≡◌, ℕ, List, [], ◌++◌, Bool, Option, append_assoc, codes, rules}, dgt_values.specs.{Placement.{placement_text}, declared.pieces.Piece.{Piece}}}
use Rattle.{dgt_message.specs.Clock.{ClockState}, dgt_lines.specs.Closing.{clock_text, closing_text, named_line, picture_text, quiet_text}}

-- the four lines, one after another
pub closing_text-parts : (squares : List Piece) (picture : Option (List Piece))
    (clock : Option ClockState) (quiet : Bool) (empty one three all : List ℕ) → empty ≡ []
    → one ≡ empty ++ named_line (codes "board") (placement_text squares) → three ≡ one
    ++ (named_line (codes "host") (picture_text picture)
    ++ named_line (codes "hostclock") (clock_text clock))
    → all ≡ three ++ named_line (codes "quiet") (quiet_text quiet)
    → all ≡ closing_text squares picture clock quiet
unfolding closing_text
closing_text-parts squares picture clock quiet empty one three all e b h q =
    search (rules, append_assoc)
