-- How a host's picture between faults and quiet relates to the board, and when.
use Rattle.std.specs.Prelude.{◌≡◌, ℕ, List, [], ◌∷◌, ◌++◌, ◌&&◌, if◌then◌else◌, Option, Some, None}
use Rattle.dgt_values.specs.declared.pieces.Piece.{Piece}
use Rattle.dgt_message.specs.Content.{Content, clock_message}
use Rattle.dgt_board.specs.declared.replies.Reply.{Reply}
use Rattle.dgt_board.specs.State.{BoardState, updates}
use Rattle.dgt_board.specs.Sending.{differs, field_of, reply_message}
use Rattle.dgt_link.specs.declared.acts.Outcome.{Outcome}
use Rattle.dgt_link.specs.Act.{ActContent}
use Rattle.dgt_link.specs.Healing.{StandsBehind}
use Rattle.dgt_link.specs.History.{IsInOrderOf, shown_on, stood_on}
use Rattle.dgt_link.specs.Machine.{MachineState, Move, after_move, after_moves}
use Rattle.dgt_link.specs.Sound.{IsUnknownOr}
use Rattle.dgt_link.specs.Stands.{AreMovesOfRun}
use Rattle.dgt_link.specs.View.{WorldView}

-- the first of these replies, as a message
abbrev pub first_reply : BoardState → List Reply → List Content
first_reply board [] = []
first_reply board (reply ∷ later) = reply_message board reply ∷ []

-- the message that the board sends by a move, if it sends one
abbrev pub sent_by : MachineState → Move → List Content
sent_by x Move.Reply = first_reply x.board x.board.owed
sent_by x (Move.Report square) =
    if updates x.board.mode && differs x.board square then field_of x.board square ∷ [] else []
sent_by x Move.ReportClock = if x.board.times_owed then clock_message x.board.clock ∷ [] else []
sent_by x _ = []

abbrev pub sent_by_all : MachineState → List Move → List Content
sent_by_all x [] = []
sent_by_all x (move ∷ moves) = sent_by x move ++ sent_by_all (after_move x move) moves

-- A picture is unknown, or what the board had reported after the earlier of these moves. By the
-- later ones it has sent exactly these messages.
pub record ReportedBefore (x : MachineState) (moves : List Move) (seen : Option (List Piece))
    (left : List Content) : Type 0 where
  pub earlier : List Move
  pub later : List Move
  pub split : moves ≡ earlier ++ later
  pub sent : sent_by_all (after_moves x earlier) later ≡ left
  pub picture : IsUnknownOr seen (Some (after_moves x earlier).board.reported_squares)

-- After these moves the picture is unknown, or what the board had reported by the moment when it
-- sent the last message that was heard. Since then it has sent exactly the messages still under
-- way.
abbrev pub WasReported : MachineState → List Move → Type 0
WasReported x moves = ReportedBefore x moves (after_moves x moves).picture (after_moves x moves).up

-- The first world stands, with all bytes under way to the host as garbage, for a state that knows
-- no picture and has no message under way. After some garbage, the world after these acts stands
-- for a state to which their moves lead from that one. The picture of that state was reported, and
-- the pieces that it shows on a square were there, in this order.
pub record IsReportedBy (acts : List ActContent) (answers : List Outcome) (world after : WorldView)
    : Type 0 where
  pub start : MachineState
  pub begins : StandsBehind (world.host.unread ++ world.up.bytes) world start
  pub nothing_heard : start.picture ≡ None
  pub nothing_sent : start.up ≡ []
  pub garbage : List ℕ
  pub moves : List Move
  pub are_moves : AreMovesOfRun acts answers moves
  pub stands : StandsBehind garbage after (after_moves start moves)
  pub reported : WasReported start moves
  pub shown : (square : ℕ) → IsInOrderOf (shown_on square start moves) (stood_on square start moves)
