-- What C calls report of a follower.
use Rattle.std.specs.Prelude.{◌≡◌, ℕ, List, Result, Ok, Err}
use Rattle.dgt_values.specs.declared.refusals.NoRoom.{NoRoom}
use Rattle.dgt_follow.specs.declared.asking.UpdateMode.{UpdateMode}
use Rattle.dgt_follow.specs.Follower.{Asks, FollowerView, asking_of}
use Rattle.dgt_c.specs.declared.header.TheConstants.{MODE_UPDATE, MODE_UPDATE_BOARD, MODE_UPDATE_NICE}
use Rattle.dgt_c.specs.declared.header.DgtSent.{DgtSent}
use Rattle.dgt_c.specs.declared.header.TheConstants.{DONE, NO_ROOM}

-- the number of an update mode in C
abbrev pub update_mode_number : UpdateMode → ℕ
update_mode_number UpdateMode.UpdateBoard = MODE_UPDATE_BOARD
update_mode_number UpdateMode.Update = MODE_UPDATE
update_mode_number UpdateMode.UpdateNice = MODE_UPDATE_NICE

abbrev pub asked_reported : Result ℕ NoRoom → DgtSent
asked_reported (Ok bytes) = record { status = DONE; bytes = bytes }
asked_reported (Err fault) = record { status = NO_ROOM; bytes = fault.need }

-- the struct contains the result of `ask`: the follower before and after, the slice before and
-- after
-- after
abbrev pub AsksReported : ℕ → FollowerView → FollowerView → List ℕ → List ℕ → DgtSent → Type 0
AsksReported now before after old new reported =
    (outcome : Result ℕ NoRoom)
    × Asks (asking_of before now) now before after old new outcome
    × (reported ≡ asked_reported outcome)
