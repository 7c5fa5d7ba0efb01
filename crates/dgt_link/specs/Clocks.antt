-- When the host's clock is promised to be the board's clock.
use Rattle.std.specs.Prelude.{◌≡◌, ◌⊎◌, List, None, IsSome, IsTrue, Contains, Bool, true, false}
use Rattle.std.specs.List.{AllByRecursion}
use Rattle.dgt_command.specs.Content.{CommandContent, EventContent}
use Rattle.dgt_board.specs.declared.replies.Reply.{Reply}
use Rattle.dgt_board.specs.State.{follows_clock}
use Rattle.dgt_link.specs.Act.{ActContent}
use Rattle.dgt_link.specs.Faults.{FaultyContent, is_fault}
use Rattle.dgt_link.specs.Healing.{StandsWith}
use Rattle.dgt_link.specs.Machine.{MachineState}
use Rattle.dgt_link.specs.Promise.{IsPromisedBy, coming_mode}
use Rattle.dgt_link.specs.Sound.{coming_clock}
use Rattle.dgt_link.specs.View.{WorldView}

-- The clock to come is known, or a reading is owed or requested, or the board has reported none
-- since it was made or lost the line or its power. In the last case a mode that follows the clock
-- owes one.
abbrev pub ClockIsComing : MachineState → Type 0
ClockIsComing x =
    IsSome (coming_clock x) ⊎ (Contains x.board.owed Reply.Clock
    ⊎ (Contains x.down (EventContent.Read CommandContent.Clock) ⊎ (x.board.reported_clock ≡ None)))

abbrev pub IsClockPromised : MachineState → Type 0
IsClockPromised = IsPromisedBy ClockIsComing follows_clock

-- the world stands, after some garbage, for a state with a mode to come that follows the clock
abbrev pub IsClockFollowing : WorldView → Type 0
IsClockFollowing = StandsWith (λ x. IsTrue (follows_clock (coming_mode x)))

-- the world stands, after some garbage, for a state with a promised clock
abbrev pub IsClockPromisedWorld : WorldView → Type 0
IsClockPromisedWorld = StandsWith IsClockPromised

-- after it the board no longer reports its clock's changes
abbrev pub stops_clock : FaultyContent → Bool
stops_clock (FaultyContent.Plain (ActContent.Host CommandContent.Reset)) = true
stops_clock (FaultyContent.Plain (ActContent.Host CommandContent.UpdateBoard)) = true
stops_clock (FaultyContent.Plain ActContent.Break) = true
stops_clock (FaultyContent.Plain ActContent.HostBreak) = true
stops_clock FaultyContent.Restart = true
stops_clock _ = false

-- no act is a fault, and after each the board keeps reporting its clock's changes
abbrev pub AreClockCalm : List FaultyContent → Type 0
AreClockCalm = AllByRecursion (λ act. (is_fault act ≡ false) × (stops_clock act ≡ false))
