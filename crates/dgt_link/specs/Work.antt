-- How much is left to do until a world is quiet, if each delivery empties its line.
use Rattle.std.specs.Prelude.{ℕ, ◌+◌, ◌*◌, ◌==◌, if◌then◌else◌, length}
use Rattle.dgt_board.specs.Sending.{backlog}
use Rattle.dgt_link.specs.View.{WorldView}

-- an upper bound of the deliveries and sendings: one for an up line that isn't empty
abbrev pub work_left : WorldView → ℕ
work_left world =
    3 * length world.down.bytes + 2 * backlog world.board.state
    + (if length world.up.bytes == 0 then 0 else 1)
