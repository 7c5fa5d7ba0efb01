-- The closing lines of a world.
use Rattle.std.specs.Prelude.{◌≡◌, ℕ, List, ◌++◌, Bool, Some, codes}
use Rattle.dgt_values.specs.Placement.{placement_text}
use Rattle.dgt_lines.specs.Closing.{closing_text}
use Rattle.dgt_link.specs.View.{WorldView}

-- the board's position, the host's picture and clock, and whether the world is quiet
abbrev pub closing_lines : WorldView → Bool → List ℕ
closing_lines world quiet =
    closing_text world.board.state.squares world.host.picture world.host.clock quiet

-- If the host's picture is the board's position, the first two lines have the same placement.
abbrev pub ClosingLinesAgree : Type 0
ClosingLinesAgree =
    (world : WorldView) (quiet : Bool) → world.host.picture ≡ Some world.board.state.squares
    → let placement = placement_text world.board.state.squares in
    (rest : List ℕ)
    × (closing_lines world quiet
    ≡ codes "board " ++ placement ++ codes "\nhost " ++ placement ++ codes "\n" ++ rest)
