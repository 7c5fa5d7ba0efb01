-- The text of the clock of a board.
use Rattle.std.specs.Prelude.{ℕ, ◌^◌, ◌==◌, not, Bool, true, false, bit_and, if◌then◌else◌, List, [], ◌∷◌, ◌++◌, codes}
use Rattle.dgt_message.specs.Clock.{ClockState, Times}
use Rattle.dgt_lines.specs.Lines.{shown_time, words_text}

-- D0 to D6 of a status
abbrev pub has_bit : ℕ → ℕ → Bool
has_bit status bit = not (bit_and status (2 ^ bit) == 0)

-- D0 says that the clock is running
abbrev pub running_text : ℕ → List ℕ
running_text status = if has_bit status 0 then codes "running" else codes "stopped"

-- whose turn it is, by the bits for black and for white
abbrev pub turn_text : (black white : Bool) → List ℕ
turn_text true false = codes "black"
turn_text false true = codes "white"
turn_text _ _ = codes "-"

-- D2 says that the battery is low
abbrev pub low_text : ℕ → List ℕ
low_text status = if has_bit status 2 then codes " low" else []

-- two words in a row, if the condition is true
abbrev pub text_if : Bool → (first second : List ℕ) → List ℕ
text_if is first second = if is then first ++ second else []

-- a word after the side for each flag of a time that is set: D4, D5 and D6 of the byte of the hours
abbrev pub flags_text : (side per_move fallen : List ℕ) → ℕ → List ℕ
flags_text side per_move fallen flags =
    text_if (has_bit flags 0) side (codes "blocked")
    ++ text_if (has_bit flags 1) side per_move
    ++ text_if (has_bit flags 2) side fallen

-- D3 says that it is black's turn, and D4 that it is white's
unfoldable pub shown_times : Times → List ℕ
shown_times t =
    words_text (codes "clock" ∷ shown_time t.first ∷ shown_time t.second ∷ running_text t.status
    ∷ turn_text (has_bit t.status 3) (has_bit t.status 4) ∷ [])
    ++ low_text t.status

-- the first time is that of the left side
unfoldable pub clock_text : ClockState → List ℕ
clock_text (ClockState.times t) =
    shown_times t
    ++ flags_text (codes " left") (codes "permove") (codes "fallen") t.first.flags
    ++ flags_text (codes " right") (codes "permove") (codes "fallen") t.second.flags
clock_text (ClockState.no_clock absence) = codes "clock none"
