-- When a host can rely on its picture again after faults of the lines or of the board's power.
use Rattle.std.specs.Prelude.{◌≡◌, ◌⊎◌, ℕ, ◌≤◌, List, [], ◌∷◌, ◌++◌, None, Bool}
use Rattle.std.specs.Prelude.{false, true, ◌||◌, IsTrue, Contains, filter, filter_map, is_some}
use Rattle.std.specs.List.{AllByRecursion, flat_map}
use Rattle.dgt_message.specs.Content.{IsMessage}
use Rattle.dgt_message.specs.Encoding.{encoding}
use Rattle.dgt_command.specs.Content.{CommandContent}
use Rattle.dgt_command.specs.Encoding.{AreBytes}
use Rattle.dgt_command.specs.Words.{Divides, IsPartial}
use Rattle.dgt_board.specs.Sending.{next_message}
use Rattle.dgt_board.specs.declared.modes.Mode.{Mode}
use Rattle.dgt_board.specs.State.{command_mode, follows_clock, updates}
use Rattle.dgt_link.specs.declared.acts.Outcome.{Outcome}
use Rattle.dgt_link.specs.declared.world.TheConstants.{MIN_DOWN, MIN_UP}
use Rattle.dgt_link.specs.Act.{ActContent}
use Rattle.dgt_link.specs.Faults.{FaultyContent, FaultyRuns, is_break}
use Rattle.dgt_link.specs.Machine.{MachineState, Move, after_moves, commands_anew, state_of_board}
use Rattle.dgt_link.specs.Promise.{IsAsked, IsPromised, act_requests, coming_mode, commands_after, last_mode}
use Rattle.dgt_link.specs.Sound.{IsSound, IsSubsequence, IsUnknownOr, coming_kinds}
use Rattle.dgt_link.specs.Stands.{AreMovesOfStep}
use Rattle.dgt_link.specs.View.{WorldView}

-- ---- which earlier acts count

pub record Counted : Type 0 where
  pub in_step : Bool  -- the board reads the commands as the host sent them
  pub in_turn : Bool  -- each awaited reply is yet to be heard
  pub asked : List CommandContent  -- the commands that count, in their order

abbrev pub nothing_counted : Bool → Counted
nothing_counted in_step = record { in_step = in_step; in_turn = false; asked = [] }

-- what counts after the host started over
abbrev pub counted_anew : Counted
counted_anew = record { in_step = true; in_turn = true; asked = commands_anew }

abbrev pub sets_mode : CommandContent → Bool
sets_mode command = is_some (command_mode command)

-- What counts after an act. If the bytes under way to the host are replaced, replies may be lost,
-- and only the commands that set a mode still count. If those under way to the board are replaced,
-- or the board loses its power, nothing counts until the host starts over. A host that gives up
-- what it awaits awaits nothing.
abbrev pub counted_after : Counted → FaultyContent → Outcome → Counted
counted_after c (FaultyContent.Plain ActContent.HostBreak) answer = counted_anew
counted_after c (FaultyContent.Plain act) answer =
    record {
      in_step = is_break act || c.in_step;
      in_turn = is_break act || c.in_turn;
      asked = commands_after c.asked (act_requests answer act);
    }
counted_after c (FaultyContent.GarbleUp bytes) Outcome.Done =
    record { in_step = c.in_step; in_turn = false; asked = filter sets_mode c.asked }
counted_after c (FaultyContent.GarbleDown bytes) Outcome.Done = nothing_counted false
counted_after c FaultyContent.BoardLost answer = nothing_counted false
counted_after c FaultyContent.Restart Outcome.Done = counted_anew
counted_after c FaultyContent.GiveUp answer = record c { in_turn = true }
counted_after c _ answer = c

abbrev pub counted_after_all : Counted → List FaultyContent → List Outcome → Counted
counted_after_all c (act ∷ acts) (answer ∷ answers) =
    counted_after_all (counted_after c act answer) acts answers
counted_after_all c _ _ = c

-- what counts after these acts, if before them it is only known whether the board is in step
abbrev pub counted_by : Bool → List FaultyContent → List Outcome → Counted
counted_by in_step acts answers = counted_after_all (nothing_counted in_step) acts answers

abbrev pub IsInStepBy : List FaultyContent → List Outcome → Type 0
IsInStepBy acts answers = IsTrue (counted_by false acts answers).in_step

-- The board reads what was sent, a dump request counts, and the last command that counts and sets a
-- mode asks for updates.
pub record IsHealing (c : Counted) : Type 0 where
  pub in_step : IsTrue c.in_step
  pub asked : IsAsked c.asked

-- The board reads what was sent, a request of the clock counts, and the last command that counts
-- and sets a mode asks for the clock's changes.
pub record IsClockHealing (c : Counted) : Type 0 where
  pub in_step : IsTrue c.in_step
  pub asked : Contains c.asked CommandContent.Clock
  pub mode : IsTrue (follows_clock (last_mode Mode.Idle (filter_map command_mode c.asked)))

-- The board reads what was sent, and each awaited reply is yet to be heard.
pub record IsInTurn (c : Counted) : Type 0 where
  pub in_step : IsTrue c.in_step
  pub in_turn : IsTrue c.in_turn

-- ---- worlds

-- the board is sound, and its part of a command is a proper prefix of some frame
pub record IsSane (world : WorldView) : Type 0 where
  pub board : IsSound (state_of_board world.board.state)
  pub partial : IsPartial world.board.partial
  pub down : AreBytes world.down.bytes

-- a sane world, with lines for the longest message of a board and the longest command
pub record IsFaultyWorld (world : WorldView) : Type 0 where
  pub sane : IsSane world
  pub up_room : MIN_UP ≤ world.up.capacity
  pub down_room : MIN_DOWN ≤ world.down.capacity

-- facts of a sane world after any acts and faults
abbrev pub AfterFaults : (List FaultyContent → WorldView → WorldView → List Outcome → Type 0)
    → Type 0
AfterFaults Holds =
    (acts : List FaultyContent) (world after : WorldView) (answers : List Outcome) → IsSane world
    → FaultyRuns acts world answers after → Holds acts world after answers

-- The world stands for the state after some garbage: the bytes under way to the host are garbage
-- and then the state's messages. The host may know anything while the state knows nothing. What the
-- state knows, from messages after the garbage, the host knows too.
pub record StandsBehind (garbage : List ℕ) (world : WorldView) (x : MachineState) : Type 0 where
  pub sound : IsSound x
  pub board : world.board.state ≡ x.board
  pub picture : IsUnknownOr x.picture world.host.picture
  pub clock : IsUnknownOr x.host_clock world.host.clock
  pub unheard : (garbage ≡ []) ⊎ ((x.picture ≡ None) × (x.host_clock ≡ None))
  pub are_messages : AllByRecursion IsMessage x.up
  pub up : world.host.unread ++ world.up.bytes ≡ garbage ++ flat_map encoding x.up
  pub down : Divides (world.board.partial ++ world.down.bytes) x.down []
  pub partial : IsPartial world.board.partial

-- there are such garbage and such a state with this property
pub record StandsWith (Holds : MachineState → Type 0) (world : WorldView) : Type 0 where
  pub garbage : List ℕ
  pub state : MachineState
  pub stands : StandsBehind garbage world state
  pub holds : Holds state

-- there are any
abbrev pub IsInStep : WorldView → Type 0
IsInStep = StandsWith (λ x. Unit {0})

-- the awaited kinds are among the kinds to come, in their order
abbrev pub AwaitsWhatComes : WorldView → MachineState → Type 0
AwaitsWhatComes world x = IsSubsequence world.host.awaited (coming_kinds x)

-- each awaited reply is yet to be heard
abbrev pub IsInTurnWorld : WorldView → Type 0
IsInTurnWorld world = StandsWith (AwaitsWhatComes world) world

-- The world after an act stands, after some garbage, for a state to which the act's moves lead from
-- this one. The awaited replies stay among those to come.
abbrev pub StandsBehindAfter : ActContent → Outcome → WorldView → MachineState → WorldView → Type 0
StandsBehindAfter act answer world x after =
    (garbage : List ℕ) × (moves : List Move) × AreMovesOfStep act answer moves
    × StandsBehind garbage after (after_moves x moves)
    × (AwaitsWhatComes world x → AwaitsWhatComes after (after_moves x moves))

-- there is such a state, with a mode to come that asks for updates
abbrev pub IsFollowing : WorldView → Type 0
IsFollowing = StandsWith (λ x. IsTrue (updates (coming_mode x)))

-- there is such a state, and its picture is promised
abbrev pub IsPromisedWorld : WorldView → Type 0
IsPromisedWorld = StandsWith IsPromised

-- Both lines are empty, and the board has nothing to send. The host may have unread bytes, and the
-- board part of a command.
abbrev pub IsRestedWorld : WorldView → Type 0
IsRestedWorld world =
    (world.up.bytes ≡ []) × (world.down.bytes ≡ []) × (next_message world.board.state ≡ None)
