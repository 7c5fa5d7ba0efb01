-- How the clock shows six characters.
use Rattle.std.specs.Prelude.{◌≡◌, ℕ, ◌<◌, List, slice_index as nth}
use Rattle.dgt_values.specs.Segment.{IsShownBy}
use Rattle.dgt_command.specs.Content.{ClockContent, display_content}

-- a display that shows the six characters, from left to right
abbrev pub Shows : List ℕ → ℕ → ℕ → ClockContent → Type 0
Shows text dots beep message =
    (place : ℕ → ℕ) × ((i : ℕ) → i < 6 → IsShownBy (nth text i) (place i))
    × (message ≡ display_content place dots beep)

-- one of the six characters has no segments
abbrev pub HasNoSegments : List ℕ → Type 0
HasNoSegments text = (i : ℕ) × (i < 6) × ((byte : ℕ) → ¬ (IsShownBy (nth text i) byte))
