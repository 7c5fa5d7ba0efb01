-- When the host's picture is promised to be the board's squares.
use Rattle.std.specs.Prelude.{◌≡◌, ◌⊎◌, List, [], ◌∷◌, ◌++◌, Bool, Option, Some, None, IsSome, IsTrue}
use Rattle.std.specs.Prelude.{Contains, filter_map, map, unwrap_or}
use Rattle.dgt_values.specs.declared.kinds.Kind.{Kind}
use Rattle.dgt_command.specs.Content.{CommandContent, EventContent}
use Rattle.dgt_command.specs.Words.{IsNoiseList}
use Rattle.dgt_board.specs.declared.modes.Mode.{Mode}
use Rattle.dgt_board.specs.declared.replies.Reply.{Reply}
use Rattle.dgt_board.specs.State.{updates, command_mode}
use Rattle.dgt_board.specs.Sending.{pending_messages}
use Rattle.dgt_link.specs.declared.acts.Outcome.{Outcome}
use Rattle.dgt_link.specs.Act.{ActContent}
use Rattle.dgt_link.specs.Machine.{MachineState, Move, commands_anew}
use Rattle.dgt_link.specs.Sound.{coming_picture}

-- the last of these modes, or the one before them if there is none
abbrev pub last_mode : Mode → List Mode → Mode
last_mode before [] = before
last_mode before (mode ∷ modes) = last_mode mode modes

-- ---- what is requested of the board

-- by a move: its commands in order, and `None` if it ends earlier requests
abbrev pub requests : Move → List (Option CommandContent)
requests (Move.Ask command) = Some command ∷ []
requests Move.Break = None ∷ []
requests (Move.HostBreak noise is_noise) = map Some commands_anew
requests _ = []

-- by an act with its outcome: an act that isn't done requests nothing
abbrev pub act_requests : Outcome → ActContent → List (Option CommandContent)
act_requests Outcome.Done (ActContent.Host command) = Some command ∷ []
act_requests Outcome.Done ActContent.Break = None ∷ []
act_requests Outcome.Done ActContent.HostBreak = map Some commands_anew
act_requests _ _ = []

-- by acts in order
abbrev pub run_requests : List ActContent → List Outcome → List (Option CommandContent)
run_requests (act ∷ acts) (outcome ∷ outcomes) =
    act_requests outcome act ++ run_requests acts outcomes
run_requests _ _ = []

-- the commands since the last break, after requests, if these were before them
abbrev pub commands_after : List CommandContent → List (Option CommandContent) → List CommandContent
commands_after before [] = before
commands_after before (None ∷ later) = commands_after [] later
commands_after before (Some command ∷ later) = commands_after (before ++ command ∷ []) later

-- a dump is among the commands, and the last of them that sets a mode exists and asks for updates
pub record IsAsked (commands : List CommandContent) : Type 0 where
  pub dump : Contains commands CommandContent.Dump
  pub mode : IsTrue (updates (last_mode Mode.Idle (filter_map command_mode commands)))

-- Among the acts that are done after the last break, a dump is requested, and the last of them that
-- sets a mode exists and asks for updates.
abbrev pub IsAskedBy : List ActContent → List Outcome → Type 0
IsAskedBy acts outcomes = IsAsked (commands_after [] (run_requests acts outcomes))

-- the mode to come after requests, if this one was before them: a break counts as a reset
abbrev pub mode_after : Mode → List (Option CommandContent) → Mode
mode_after before [] = before
mode_after before (None ∷ later) = mode_after Mode.Idle later
mode_after before (Some command ∷ later) =
    mode_after (unwrap_or (command_mode command) before) later

-- ---- of states

-- the mode that an event sets, if it sets one
abbrev pub event_mode : EventContent → Option Mode
event_mode (EventContent.Read command) = command_mode command
event_mode _ = None

-- the mode once the board has taken all commands under way
abbrev pub coming_mode : MachineState → Mode
coming_mode x = last_mode x.board.mode (filter_map event_mode x.down)

-- the picture to come is known, or a dump is owed or requested
abbrev pub PictureIsComing : MachineState → Type 0
PictureIsComing x =
    IsSome (coming_picture x) ⊎ (Contains x.board.owed (Reply.Of Kind.Dump)
    ⊎ Contains x.down (EventContent.Read CommandContent.Dump))

-- this is coming, and the mode to come asks for changes of it
pub record IsPromisedBy (Comes : MachineState → Type 0) (asks : Mode → Bool) (x : MachineState)
    : Type 0 where
  pub coming : Comes x
  pub mode : IsTrue (asks (coming_mode x))

abbrev pub IsPromised : MachineState → Type 0
IsPromised = IsPromisedBy PictureIsComing updates

-- the board receives noise, and then the requests of a host that starts over
pub record IsRestarted (x : MachineState) : Type 0 where
  pub noise : List EventContent
  pub is_noise : IsNoiseList noise
  pub down : x.down ≡ noise ++ map EventContent.Read commands_anew

-- nothing is under way, and the board has nothing to send
pub record IsQuiet (x : MachineState) : Type 0 where
  pub up : x.up ≡ []
  pub down : x.down ≡ []
  pub pending : pending_messages x.board ≡ []
