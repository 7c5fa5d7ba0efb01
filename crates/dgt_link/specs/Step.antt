-- An act in a world: its outcome, and its effect.
use Rattle.std.specs.Prelude.{◌≡◌, ◌⊎◌, ℕ, ◌+◌, ◌<◌, ◌≤◌, ◌==◌, List, [], ◌∷◌, length, take}
use Rattle.std.specs.Prelude.{Option, Some, None, Bool, false, ◌||◌, if◌then◌else◌, IsTrue, nat_le}
use Rattle.dgt_values.specs.declared.kinds.Kind.{Kind}
use Rattle.dgt_message.specs.Content.{Content}
use Rattle.dgt_message.specs.Encoding.{Encodes, encoding}
use Rattle.dgt_command.specs.Content.{requested_kind}
use Rattle.dgt_command.specs.Encoding.{EncodesCommand, command_encoding}
use Rattle.dgt_board.specs.declared.state.TheConstants.{MAX_OWED}
use Rattle.dgt_board.specs.State.{BoardState, after_change, after_hand_clock}
use Rattle.dgt_board.specs.Sending.{after_sending, next_message}
use Rattle.dgt_board.specs.View.{BoardView, HasTaken, view_after_line_lost}
use Rattle.dgt_host.specs.Host.{host_after, new_host, awaits_too_many, host_awaiting, restart_bytes}
use Rattle.dgt_link.specs.declared.acts.Outcome.{Outcome}
use Rattle.dgt_link.specs.Act.{ActContent}
use Rattle.dgt_link.specs.View.{LineContents, WorldView, line_holding, overflows, with_bytes, without_first}

-- ---- the outcome of an act

-- the board owes as many replies as it can
abbrev pub is_full : BoardState → Bool
is_full board = nat_le MAX_OWED (length board.owed)

-- no byte is requested, or the line has none
abbrev pub moves_nothing : ℕ → LineContents → Bool
moves_nothing count line = (count == 0) || (length line.bytes == 0)

-- of the board that sends this message, if there is one, into the line
abbrev pub sending_outcome : Option Content → LineContents → Outcome
sending_outcome None line = Outcome.Nothing
sending_outcome (Some message) line =
    if overflows line (encoding message) then Outcome.NoRoom else Outcome.Done

abbrev pub outcome : ActContent → WorldView → Outcome
outcome (ActContent.Host command) world =
    if awaits_too_many world.host (requested_kind command) then Outcome.TooMany
    else if overflows world.down (command_encoding command) then Outcome.NoRoom
    else Outcome.Done
outcome ActContent.BoardSend world = sending_outcome (next_message world.board.state) world.up
outcome (ActContent.ToBoard count) world =
    if moves_nothing count world.down then Outcome.Nothing
    else if is_full world.board.state then Outcome.Busy
    else Outcome.Done
outcome (ActContent.ToHost count) world =
    if moves_nothing count world.up then Outcome.Nothing else Outcome.Done
outcome _ world = Outcome.Done

-- ---- the effect of an act

-- after fewer than this many of these bytes the board has room for a reply
abbrev pub StaysUnfinished : BoardView → List ℕ → ℕ → Type 0
StaysUnfinished board bytes moved =
    (fewer : ℕ) → 0 < fewer → fewer < moved
    → (between : BoardView) × HasTaken board (take fewer bytes) between
    × (is_full between.state ≡ false)

-- the board takes the line's bytes one by one, until this many are taken, none is left or it is
-- full
pub record Delivers (count : ℕ) (world after : WorldView) : Type 0 where
  pub moved : ℕ
  pub some : 0 < moved
  pub within : (moved ≤ count) × (moved ≤ length world.down.bytes)
  pub board : BoardView
  pub taken : HasTaken world.board (take moved world.down.bytes) board
  pub earlier : StaysUnfinished world.board world.down.bytes moved
  pub ended : (moved ≡ count) ⊎ ((moved ≡ length world.down.bytes) ⊎ IsTrue (is_full board.state))
  pub leaves : after ≡ record world { board = board; down = without_first world.down moved }

-- the world with this state of its board
abbrev pub with_state : WorldView → BoardState → WorldView
with_state world state = record world { board = record world.board { state = state } }

-- the effect of an act that is done
abbrev pub Becomes : ActContent → WorldView → WorldView → Type 0
Becomes (ActContent.Change square piece) world after =
    after ≡ with_state world (after_change world.board.state square piece)
Becomes (ActContent.ClockRead clock) world after =
    after ≡ with_state world (after_hand_clock world.board.state clock)
Becomes (ActContent.Host command) world after =
    EncodesCommand command (command_encoding command)
    × (after ≡ record world {
      host = host_awaiting world.host (requested_kind command);
      down = with_bytes world.down (command_encoding command);
    })
Becomes ActContent.BoardSend world after =
    (message : Content) × (next_message world.board.state ≡ Some message)
    × Encodes message (encoding message)
    × (after ≡ record (with_state world (after_sending world.board.state message)) {
      up = with_bytes world.up (encoding message);
    })
Becomes (ActContent.ToBoard count) world after = Delivers count world after
Becomes (ActContent.ToHost count) world after =
    after ≡ record world {
      host = host_after world.host (take count world.up.bytes);
      up = without_first world.up count;
    }
-- both sides lose the line
Becomes ActContent.Break world after =
    after ≡ record {
      board = view_after_line_lost world.board;
      host = new_host;
      up = line_holding [] world.up.capacity;
      down = line_holding [] world.down.capacity;
    }
-- only the host loses it, and starts over
Becomes ActContent.HostBreak world after =
    after ≡ record world {
      host = host_awaiting new_host (Some Kind.Dump);
      up = line_holding [] world.up.capacity;
      down = line_holding restart_bytes world.down.capacity;
    }

-- the first of these if an act is done, and otherwise the second
abbrev pub IfDone : Outcome → Type 0 → Type 0 → Type 0
IfDone Outcome.Done done kept = done
IfDone _ done kept = kept

-- An act in a world, its outcome, and the world after it. An act that isn't done changes nothing.
pub record Step (act : ActContent) (world : WorldView) (answer : Outcome) (after : WorldView)
    : Type 0 where
  pub answers : answer ≡ outcome act world
  pub leaves : IfDone answer (Becomes act world after) (after ≡ world)

-- acts in order, each with its outcome, if this relation describes a single act
abbrev pub RunsBy : {A : Type 0} → (A → WorldView → Outcome → WorldView → Type 0) → List A
    → WorldView → List Outcome → WorldView → Type 0
RunsBy Does [] world [] after = after ≡ world
RunsBy Does (act ∷ acts) world (answer ∷ answers) after =
    (between : WorldView) × Does act world answer between × RunsBy Does acts between answers after
RunsBy Does _ world _ after = ⊥

abbrev pub Runs : List ActContent → WorldView → List Outcome → WorldView → Type 0
Runs = RunsBy Step

-- how many of these acts were done
abbrev pub done_count : List Outcome → ℕ
done_count [] = 0
done_count (Outcome.Done ∷ outcomes) = 1 + done_count outcomes
done_count (_ ∷ outcomes) = done_count outcomes
