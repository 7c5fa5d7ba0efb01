-- A board and a follower on lines that may fail: the acts of a request, and what happens to both.
use Rattle.std.specs.Prelude.{◌≡◌, ℕ, ◌+◌, ◌<◌, ◌≤◌, List, [], ◌∷◌, length, map, Bool, ◌||◌, if◌then◌else◌}
use Rattle.dgt_command.specs.Content.{CommandContent}
use Rattle.dgt_host.specs.Host.{HostView}
use Rattle.dgt_follow.specs.declared.asking.Asking.{Asking}
use Rattle.dgt_follow.specs.declared.asking.UpdateMode.{UpdateMode}
use Rattle.dgt_follow.specs.Pace.{PaceView, mode_command, pace_after_asking, pace_at}
use Rattle.dgt_follow.specs.Follower.{FollowerView, asking_of, following}
use Rattle.dgt_link.specs.declared.acts.Outcome.{Outcome}
use Rattle.dgt_link.specs.Clocks.{stops_clock}
use Rattle.dgt_link.specs.Faults.{FaultyContent, FaultyRuns, FaultyStep, is_fault, sends, stops}
use Rattle.dgt_link.specs.Healing.{IsSane}
use Rattle.dgt_link.specs.View.{LineContents, WorldView, with_bytes}

-- ---- a request

-- the acts that request a reading of the clock, in the modes that report it
abbrev pub reading_acts : UpdateMode → List FaultyContent
reading_acts UpdateMode.UpdateBoard = []
reading_acts UpdateMode.Update = sends CommandContent.Clock ∷ []
reading_acts UpdateMode.UpdateNice = sends CommandContent.Clock ∷ []

-- the acts of a request
abbrev pub asking_acts : UpdateMode → Asking → List FaultyContent
asking_acts mode Asking.Nothing = []
asking_acts mode Asking.Identify = sends CommandContent.Serial ∷ []
asking_acts mode Asking.Heartbeat =
    sends (mode_command mode) ∷ sends CommandContent.Dump ∷ reading_acts mode
asking_acts mode Asking.Anew = FaultyContent.Restart ∷ sends (mode_command mode) ∷ reading_acts mode

-- each of these acts is done
abbrev pub all_done : List FaultyContent → List Outcome
all_done acts = map (λ _. Outcome.Done) acts

abbrev pub RunsDone : List FaultyContent → WorldView → WorldView → Type 0
RunsDone acts world after = FaultyRuns acts world (all_done acts) after

-- the line has room for this many more bytes
abbrev pub HasRoom : LineContents → List ℕ → Type 0
HasRoom line bytes = length line.bytes + length bytes ≤ line.capacity

-- the host is now this one and has written these bytes into its line
abbrev pub after_writing : WorldView → HostView → List ℕ → WorldView
after_writing world host bytes = record world { host = host; down = with_bytes world.down bytes }

-- ---- what happens

-- the world of a follower's host, the follower's pace, and two counts
pub record FollowedView : Type 0 where
  pub world : WorldView
  pub pace : PaceView
  pub since : ℕ  -- the number of requests since the last fault, break or reset
  -- the number of requests in a mode that reports the clock, since the last act that unsettles the
  -- clock and since the last request in another mode
  pub clock_since : ℕ

abbrev pub follower_of : FollowedView → FollowerView
follower_of followed = following followed.world.host followed.pace

pub data Happening : Type 0 where
  -- the follower is asked at this time, and writes what is due
  Ask : (now : ℕ) → Happening
  -- anything else: a delivery, a sending, another command, a change, a fault
  Other : (act : FaultyContent) → Happening

-- after it, earlier requests don't count
abbrev pub unsettles : FaultyContent → Bool
unsettles act = is_fault act || stops act

-- the count after an act that is not a request
abbrev pub count_after : FaultyContent → ℕ → ℕ
count_after act since = if unsettles act then 0 else since

abbrev pub count_after_asking : Asking → ℕ → ℕ
count_after_asking Asking.Nothing since = since
count_after_asking Asking.Identify since = since
count_after_asking _ since = since + 1

-- after it, earlier requests of the clock don't count
abbrev pub unsettles_clock : FaultyContent → Bool
unsettles_clock act = is_fault act || stops_clock act

abbrev pub clock_count_after : FaultyContent → ℕ → ℕ
clock_count_after act since = if unsettles_clock act then 0 else since

abbrev pub clock_count_after_asking : UpdateMode → Asking → ℕ → ℕ
clock_count_after_asking mode Asking.Nothing since = since
clock_count_after_asking mode Asking.Identify since = since
clock_count_after_asking UpdateMode.UpdateBoard _ since = 0
clock_count_after_asking _ _ since = since + 1

-- the patience, and how much of it is left, are the same
pub record KeepsPatience (before after : PaceView) : Type 0 where
  pub patience : after.patience ≡ before.patience
  pub left : after.left ≡ before.left

-- A request is the acts that are due at its time, each of them done. Any other act has any of its
-- outcomes, and the follower may record anything of it.
abbrev pub FollowedStep : Happening → FollowedView → FollowedView → Type 0
FollowedStep (Happening.Ask now) before after =
    let what = asking_of (follower_of before) now in
    RunsDone (asking_acts before.pace.mode what) before.world after.world
    × (after.pace ≡ pace_after_asking what (pace_at before.pace now) now)
    × (after.since ≡ count_after_asking what before.since)
    × (after.clock_since
    ≡ clock_count_after_asking before.pace.mode what before.clock_since)
FollowedStep (Happening.Other act) before after =
    (answer : Outcome) × FaultyStep act before.world answer after.world
    × KeepsPatience before.pace after.pace
    × (after.since ≡ count_after act before.since)
    × (after.clock_since ≡ clock_count_after act before.clock_since)

abbrev pub FollowedRuns : List Happening → FollowedView → FollowedView → Type 0
FollowedRuns [] before after = after ≡ before
FollowedRuns (happening ∷ later) before after =
    (between : FollowedView) × FollowedStep happening before between
    × FollowedRuns later between after

-- facts of the world after any happenings by which this count rises from zero above the patience,
-- if the world was sane
abbrev pub AfterAskings : (FollowedView → ℕ) → (WorldView → Type 0) → Type 0
AfterAskings count Holds =
    (happenings : List Happening) (before after : FollowedView) → IsSane before.world
    → before.pace.left ≤ before.pace.patience → count before ≡ 0
    → FollowedRuns happenings before after → after.pace.patience < count after → Holds after.world
