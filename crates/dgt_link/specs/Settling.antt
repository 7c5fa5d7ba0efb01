-- How a world comes to rest: the bytes under way are delivered, and the board sends what it owes.
use Rattle.std.specs.Prelude.{◌≡◌, ℕ, zero, suc, ◌+◌, ◌*◌, ◌<◌, ◌≤◌, List, [], ◌∷◌, ◌++◌, length, replicate, None, IsSome, Contains}
use Rattle.std.specs.List.{AllByRecursion}
use Rattle.dgt_board.specs.Sending.{backlog, next_message}
use Rattle.dgt_link.specs.declared.acts.Outcome.{Outcome}
use Rattle.dgt_link.specs.Act.{ActContent}
use Rattle.dgt_link.specs.Machine.{IsSending, MachineState, Move, after_moves}
use Rattle.dgt_link.specs.Promise.{IsQuiet}
use Rattle.dgt_link.specs.Step.{Runs, Step}
use Rattle.dgt_link.specs.View.{WorldView}

-- ---- of the machine

-- the board takes or sends something, or the host hears something
abbrev pub IsSettlingMove : Move → Type 0
IsSettlingMove Move.Take = Unit {0}
IsSettlingMove Move.Hear = Unit {0}
IsSettlingMove move = IsSending move

-- An upper bound of the moves left until everything is quiet. A message is heard. What the board
-- has to report is sent and heard. A command is taken, and what it adds is sent and heard.
abbrev pub moves_left : MachineState → ℕ
moves_left x = length x.up + 2 * backlog x.board + 3 * length x.down

-- such moves, at most this many, lead to a quiet state
pub record SettlesBy (moves : List Move) (x : MachineState) : Type 0 where
  pub settling : AllByRecursion IsSettlingMove moves
  pub few : length moves ≤ moves_left x
  pub quiet : IsQuiet (after_moves x moves)

-- ---- of worlds

-- a delivery, or a sending of the board
abbrev pub IsSettling : ActContent → Type 0
IsSettling ActContent.BoardSend = Unit {0}
IsSettling (ActContent.ToBoard count) = Unit {0}
IsSettling (ActContent.ToHost count) = Unit {0}
IsSettling _ = ⊥

-- The next step of settling. While bytes are under way to the host, it hears all of them. If none
-- are, the board sends a message if it has any. If it has none, it takes all bytes under way to it.
abbrev pub IsNext : WorldView → ActContent → Type 0
IsNext world (ActContent.ToHost count) = (0 < count) × (count ≡ length world.up.bytes)
IsNext world ActContent.BoardSend =
    (world.up.bytes ≡ []) × IsSome (next_message world.board.state)
IsNext world (ActContent.ToBoard count) =
    (world.up.bytes ≡ []) × (next_message world.board.state ≡ None)
    × (0 < count) × (count ≡ length world.down.bytes)
IsNext world _ = ⊥

-- acts that lead from one world to the other, each of them the next possible one, and done
abbrev pub AreInOrder : List ActContent → WorldView → WorldView → Type 0
AreInOrder [] world after = after ≡ world
AreInOrder (act ∷ acts) world after =
    (between : WorldView) × IsNext world act × Step act world Outcome.Done between
    × AreInOrder acts between after

-- this many deliveries and sendings, each of them done, lead from one world to the other, in order
pub record SettlesIn (count : ℕ) (world after : WorldView) : Type 0 where
  pub acts : List ActContent
  pub settling : AllByRecursion IsSettling acts
  pub counted : count ≡ length acts
  pub run : Runs acts world (replicate count Outcome.Done) after
  pub in_order : AreInOrder acts world after

-- An upper bound of the deliveries and sendings that can be done in a row, in whatever chunks. Each
-- byte is delivered, a byte that the board takes adds at most one to its backlog, and a message
-- fits into the up line.
abbrev pub steps_left : WorldView → ℕ
steps_left world =
    length world.up.bytes + (world.up.capacity + 1) * backlog world.board.state
    + (world.up.capacity + 2) * length world.down.bytes

-- ---- in rounds, in whatever order and chunks

-- Deliveries and sendings in which the board sends, takes some bytes, and the host hears some.
pub record IsRound (acts : List ActContent) : Type 0 where
  pub settling : AllByRecursion IsSettling acts
  pub sends : Contains acts ActContent.BoardSend
  pub takes : (count : ℕ) × (0 < count) × Contains acts (ActContent.ToBoard count)
  pub hears : (count : ℕ) × (0 < count) × Contains acts (ActContent.ToHost count)

-- this many rounds in a row, and then deliveries and sendings
abbrev pub HasRounds : ℕ → List ActContent → Type 0
HasRounds zero acts = AllByRecursion IsSettling acts
HasRounds (suc rounds) acts =
    (round : List ActContent) × (later : List ActContent) × (acts ≡ round ++ later) × IsRound round
    × HasRounds rounds later
