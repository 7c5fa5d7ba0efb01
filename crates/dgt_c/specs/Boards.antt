-- What C calls report of a board.
use Rattle.std.specs.Prelude.{◌≡◌, ℕ, List, take, Option, None, true, false}
use Rattle.dgt_command.specs.Content.{EventContent}
use Rattle.dgt_board.specs.declared.modes.Mode.{Mode}
use Rattle.dgt_board.specs.declared.sending.Polled.{Polled}
use Rattle.dgt_board.specs.Sending.{next_message}
use Rattle.dgt_board.specs.View.{BoardView, HasTaken, Polls, after_bytes}
use Rattle.dgt_c.specs.Commands.{CommandReporting, ReportsCommand}
use Rattle.dgt_c.specs.Reading.{ReadsWord}
use Rattle.dgt_c.specs.declared.header.DgtPolled.{DgtPolled}
use Rattle.dgt_c.specs.declared.header.DgtTaken.{DgtTaken}
use Rattle.dgt_c.specs.declared.header.TheConstants.{MODE_IDLE, MODE_UPDATE, MODE_UPDATE_BOARD, MODE_UPDATE_NICE, NO_ROOM, POLLED_NOTHING, POLLED_WROTE}

abbrev pub mode_number : Mode → ℕ
mode_number Mode.Idle = MODE_IDLE
mode_number Mode.Update = MODE_UPDATE
mode_number Mode.UpdateBoard = MODE_UPDATE_BOARD
mode_number Mode.UpdateNice = MODE_UPDATE_NICE

-- The board used the first `used` bytes: up to and including the first that completes a frame, or
-- all of them. The frame is reported.
abbrev pub TakesBytes : BoardView → List ℕ → ℕ → CommandReporting → BoardView → Type 0
TakesBytes before chunk used reported after =
    (event : Option EventContent) × ReadsWord before.partial chunk used event
    × ReportsCommand event reported × (after ≡ after_bytes before (take used chunk) event)
    × HasTaken before (take used chunk) after

-- The board did so; or it was busy, and then no frame is reported and nothing changes.
abbrev pub Takes : BoardView → List ℕ → DgtTaken → CommandReporting → BoardView → Type 0
Takes before chunk taken reported after =
    (taken.busy ≡ false → TakesBytes before chunk taken.used reported after)
    × (taken.busy ≡ true → (taken.used ≡ 0) × ReportsCommand None reported × (after ≡ before))

abbrev pub polled_reported : Polled → DgtPolled
polled_reported Polled.Nothing = record { status = POLLED_NOTHING; bytes = 0 }
polled_reported (Polled.Wrote bytes) = record { status = POLLED_WROTE; bytes = bytes }
polled_reported (Polled.NeedRoom bytes) = record { status = NO_ROOM; bytes = bytes }

-- the struct contains the result of polling: the board before and after, the slice before and after
abbrev pub PollsReported : DgtPolled → BoardView → BoardView → List ℕ → List ℕ → Type 0
PollsReported reported before after old new =
    (polled : Polled) × Polls polled (next_message before.state) before after old new
    × (reported ≡ polled_reported polled)
