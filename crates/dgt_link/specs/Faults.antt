-- A world in which the lines and the board's power may fail: its acts, their outcomes and their
-- effects.
use Rattle.std.specs.Prelude.{◌≡◌, ℕ, List, length, Some, Bool, false, true, if◌then◌else◌, nat_lt}
use Rattle.std.specs.List.{AllByRecursion}
use Rattle.dgt_values.specs.declared.kinds.Kind.{Kind}
use Rattle.dgt_command.specs.Content.{CommandContent}
use Rattle.dgt_command.specs.Encoding.{AreBytes}
use Rattle.dgt_board.specs.View.{view_after_line_lost}
use Rattle.dgt_host.specs.Host.{host_awaiting, restart_bytes, without_awaited}
use Rattle.dgt_link.specs.declared.acts.Outcome.{Outcome}
use Rattle.dgt_link.specs.declared.faulty.FaultyAct.{FaultyAct}
use Rattle.dgt_link.specs.declared.faulty.FaultyAct.TheVariants as faulty
use Rattle.dgt_link.specs.Act.{ActContent, ActHasArrays, act_content}
use Rattle.dgt_link.specs.Step.{Becomes, IfDone, RunsBy, outcome}
use Rattle.dgt_link.specs.View.{LineContents, WorldView, line_holding, overflows, with_bytes}

-- ---- acts and faults

pub data FaultyContent : Type 0 where
  -- an act of a world without faults
  Plain : (act : ActContent) → FaultyContent
  -- these bytes replace those under way to the host
  GarbleUp : (bytes : List ℕ) → FaultyContent
  -- these bytes replace those under way to the board
  GarbleDown : (bytes : List ℕ) → FaultyContent
  -- the board loses its power and gets it back; the lines keep their bytes
  BoardLost : FaultyContent
  -- the host starts over: it gives up what it awaits and appends its restart bytes to the down line
  Restart : FaultyContent
  -- the host gives up what it awaits; nothing else changes
  GiveUp : FaultyContent

-- the act of a host that sends a command
abbrev pub sends : CommandContent → FaultyContent
sends command = FaultyContent.Plain (ActContent.Host command)

abbrev pub faulty_content : FaultyAct → FaultyContent
faulty_content (faulty.Plain act) = FaultyContent.Plain (act_content act)
faulty_content (faulty.GarbleUp bytes) = FaultyContent.GarbleUp bytes.now
faulty_content (faulty.GarbleDown bytes) = FaultyContent.GarbleDown bytes.now
faulty_content faulty.BoardLost = FaultyContent.BoardLost
faulty_content faulty.Restart = FaultyContent.Restart
faulty_content faulty.GiveUp = FaultyContent.GiveUp

-- the arrays of its command are as long as their types say
abbrev pub FaultyActHasArrays : FaultyAct → Type 0
FaultyActHasArrays (faulty.Plain act) = ActHasArrays act
FaultyActHasArrays _ = Unit {0}

-- the outcome of replacing a line's bytes: they have to fit
abbrev pub holding_outcome : LineContents → List ℕ → Outcome
holding_outcome line bytes =
    if nat_lt line.capacity (length bytes) then Outcome.NoRoom else Outcome.Done

abbrev pub faulty_outcome : FaultyContent → WorldView → Outcome
faulty_outcome (FaultyContent.Plain act) world = outcome act world
faulty_outcome (FaultyContent.GarbleUp bytes) world = holding_outcome world.up bytes
faulty_outcome (FaultyContent.GarbleDown bytes) world = holding_outcome world.down bytes
faulty_outcome FaultyContent.BoardLost world = Outcome.Done
faulty_outcome FaultyContent.GiveUp world = Outcome.Done
faulty_outcome FaultyContent.Restart world =
    if overflows world.down restart_bytes then Outcome.NoRoom else Outcome.Done

-- the effect of an act that is done
abbrev pub FaultyBecomes : FaultyContent → WorldView → WorldView → Type 0
FaultyBecomes (FaultyContent.Plain act) world after = Becomes act world after
FaultyBecomes (FaultyContent.GarbleUp bytes) world after =
    after ≡ record world { up = line_holding bytes world.up.capacity }
FaultyBecomes (FaultyContent.GarbleDown bytes) world after =
    AreBytes bytes × (after ≡ record world { down = line_holding bytes world.down.capacity })
FaultyBecomes FaultyContent.BoardLost world after =
    after ≡ record world { board = view_after_line_lost world.board }
FaultyBecomes FaultyContent.Restart world after =
    after ≡ record world {
      host = host_awaiting (without_awaited world.host) (Some Kind.Dump);
      down = with_bytes world.down restart_bytes;
    }
FaultyBecomes FaultyContent.GiveUp world after =
    after ≡ record world { host = without_awaited world.host }

-- an act, its outcome and the world after it; an act that isn't done changes nothing
pub record FaultyStep (act : FaultyContent) (world : WorldView) (answer : Outcome)
    (after : WorldView) : Type 0 where
  pub answers : answer ≡ faulty_outcome act world
  pub leaves : IfDone answer (FaultyBecomes act world after) (after ≡ world)

-- acts in order, each with its outcome
abbrev pub FaultyRuns : List FaultyContent → WorldView → List Outcome → WorldView → Type 0
FaultyRuns = RunsBy FaultyStep

-- facts of the outcomes, if these acts lead from one world to the other
abbrev pub IfRan : List FaultyContent → WorldView → WorldView → (List Outcome → Type 0) → Type 0
IfRan acts world after Holds =
    (outcomes : List Outcome) → FaultyRuns acts world outcomes after → Holds outcomes

-- ---- kinds of acts

-- bytes are lost or altered, or the board loses its power
abbrev pub is_fault : FaultyContent → Bool
is_fault (FaultyContent.GarbleUp bytes) = true
is_fault (FaultyContent.GarbleDown bytes) = true
is_fault FaultyContent.BoardLost = true
is_fault _ = false

-- no act is a fault
abbrev pub AreFaultless : List FaultyContent → Type 0
AreFaultless = AllByRecursion (λ act. is_fault act ≡ false)

-- after it the board may read commands that the host didn't send, or has forgotten some
abbrev pub loses_step : FaultyContent → Bool
loses_step (FaultyContent.GarbleDown bytes) = true
loses_step FaultyContent.BoardLost = true
loses_step _ = false

-- after it the board no longer reports its changes
abbrev pub stops : FaultyContent → Bool
stops (FaultyContent.Plain (ActContent.Host CommandContent.Reset)) = true
stops (FaultyContent.Plain ActContent.Break) = true
stops _ = false

-- no act is a fault, and after each the board keeps reporting its changes
abbrev pub AreCalm : List FaultyContent → Type 0
AreCalm = AllByRecursion (λ act. (is_fault act ≡ false) × (stops act ≡ false))

-- the host starts over
abbrev pub begins_anew : FaultyContent → Bool
begins_anew FaultyContent.Restart = true
begins_anew (FaultyContent.Plain ActContent.HostBreak) = true
begins_anew _ = false

-- both sides lose the line, or only the host: nothing is left on the lines
abbrev pub is_break : ActContent → Bool
is_break ActContent.Break = true
is_break ActContent.HostBreak = true
is_break _ = false
