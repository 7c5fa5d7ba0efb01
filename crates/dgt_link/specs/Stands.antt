-- The states of the machine for which a world stands, and the moves of acts.
use Rattle.std.specs.Prelude.{◌≡◌, ℕ, ◌≤◌, List, [], ◌∷◌, ◌++◌, replicate}
use Rattle.std.specs.List.{AllByRecursion, flat_map}
use Rattle.dgt_message.specs.Content.{Content, IsMessage}
use Rattle.dgt_message.specs.Encoding.{encoding}
use Rattle.dgt_command.specs.Content.{EventContent}
use Rattle.dgt_command.specs.Words.{Divides, IsNoiseList, IsPartial}
use Rattle.dgt_link.specs.declared.acts.Outcome.{Outcome}
use Rattle.dgt_link.specs.declared.world.TheConstants.{MIN_DOWN, MIN_UP}
use Rattle.dgt_link.specs.Act.{ActContent}
use Rattle.dgt_link.specs.Machine.{IsSending, MachineState, Move, after_moves}
use Rattle.dgt_link.specs.Sound.{IsExact, IsSound}
use Rattle.dgt_link.specs.Step.{IfDone}
use Rattle.dgt_link.specs.View.{WorldView}

-- these are messages, and the bytes are their encodings in a row
pub record AreEncoded (said : List Content) (bytes : List ℕ) : Type 0 where
  pub are_messages : AllByRecursion IsMessage said
  pub in_a_row : bytes ≡ flat_map encoding said

-- The bytes of the lines, and those that the board and the host hold of an unfinished command and
-- message, are the messages and the commands under way. Everything else is the same, and the state
-- is sound.
pub record StandsFor (world : WorldView) (x : MachineState) : Type 0 where
  pub sound : IsSound x
  pub board : world.board.state ≡ x.board
  pub picture : world.host.picture ≡ x.picture
  pub clock : world.host.clock ≡ x.host_clock
  pub awaited : world.host.awaited ≡ x.awaited
  pub up : AreEncoded x.up (world.host.unread ++ world.up.bytes)
  pub down : Divides (world.board.partial ++ world.down.bytes) x.down []
  -- the board holds a part of some command
  pub partial : IsPartial world.board.partial

-- the world stands for an exact state
pub record IsExactWorld (world : WorldView) : Type 0 where
  pub state : MachineState
  pub stands : StandsFor world state
  pub exact : IsExact state

-- There is a sound state for which the world stands, and the longest message that a board sends and
-- the longest command fit into its lines.
pub record IsWorld (world : WorldView) : Type 0 where
  pub state : MachineState
  pub stands : StandsFor world state
  pub up_room : MIN_UP ≤ world.up.capacity
  pub down_room : MIN_DOWN ≤ world.down.capacity

-- ---- the moves of acts

-- an act that is done is its own move, or for a delivery only takes or only hears
abbrev pub AreMovesOfAct : ActContent → List Move → Type 0
AreMovesOfAct (ActContent.Change square piece) moves = moves ≡ Move.Change square piece ∷ []
AreMovesOfAct (ActContent.ClockRead clock) moves = moves ≡ Move.HandClock clock ∷ []
AreMovesOfAct (ActContent.Host command) moves = moves ≡ Move.Ask command ∷ []
AreMovesOfAct ActContent.BoardSend moves = (move : Move) × IsSending move × (moves ≡ move ∷ [])
AreMovesOfAct (ActContent.ToBoard _) moves = (count : ℕ) × (moves ≡ replicate count Move.Take)
AreMovesOfAct (ActContent.ToHost _) moves = (count : ℕ) × (moves ≡ replicate count Move.Hear)
AreMovesOfAct ActContent.Break moves = moves ≡ Move.Break ∷ []
AreMovesOfAct ActContent.HostBreak moves =
    (noise : List EventContent) × (is_noise : IsNoiseList noise)
    × (moves ≡ Move.HostBreak noise is_noise ∷ [])

-- an act that isn't done is not a move
abbrev pub AreMovesOfStep : ActContent → Outcome → List Move → Type 0
AreMovesOfStep act outcome moves = IfDone outcome (AreMovesOfAct act moves) (moves ≡ [])

-- acts in order, each with its outcome
abbrev pub AreMovesOfRun : List ActContent → List Outcome → List Move → Type 0
AreMovesOfRun [] [] moves = moves ≡ []
AreMovesOfRun (act ∷ acts) (outcome ∷ outcomes) moves =
    (first : List Move) × (later : List Move) × AreMovesOfStep act outcome first
    × AreMovesOfRun acts outcomes later × (moves ≡ first ++ later)
AreMovesOfRun _ _ moves = ⊥

-- the world after an act stands for a state to which the act's moves lead from this one
abbrev pub StandsAfterStep : ActContent → Outcome → MachineState → WorldView → Type 0
StandsAfterStep act outcome x after =
    (moves : List Move) × AreMovesOfStep act outcome moves × StandsFor after (after_moves x moves)

-- the world after acts in order stands for a state to which their moves lead from this one
abbrev pub StandsAfterRun : List ActContent → List Outcome → MachineState → WorldView → Type 0
StandsAfterRun acts outcomes x after =
    (moves : List Move) × AreMovesOfRun acts outcomes moves × StandsFor after (after_moves x moves)
