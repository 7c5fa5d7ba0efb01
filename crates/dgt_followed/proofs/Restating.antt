-- Each dump restates the picture, if no square has changed unreported when it is sent.
use Rattle.{std.{proofs.{Common.{rules, List, [], ◌∷◌, ◌++◌, Option}}}, dgt_values.specs.declared.{pieces.Piece.{Piece}}}
use Rattle.{dgt_message.specs.{Clock.{ClockState}, Content.{Content, clock_message, Content.{dump}}, Picture.{picture_after_all}}, dgt_command.specs.Content.{EventContent}}
use Rattle.{dgt_board.specs.{Sending.{reply_message}, declared.replies.Reply.{Reply}}, dgt_link.specs.Machine.{MachineState, Move, after_hear, after_move}}
use Rattle.{dgt_link.specs.{Machine.{after_moves, after_reply, after_take}, Sound.{IsSound, coming_picture}}, dgt_followed.specs.Restated.{AllRestate, DumpsAtRest, IsAtRest}}
use Rattle.dgt_followed.specs.Restated.{SendsAtRest}

-- the messages under way in a state
abbrev pub Restates : MachineState → Type 0
Restates x = AllRestate x.picture x.up

-- one message more
restate_more : (picture : Option (List Piece)) (up : List Content) (message : Content)
    → AllRestate picture up → AllRestate (picture_after_all picture up) (message ∷ [])
    → AllRestate picture (up ++ message ∷ [])
restate_more picture [] message all last = last
restate_more picture (dump pieces ∷ up) message all last =
    (all.0, restate_more _ up message all.1 last)
restate_more picture (first ∷ up) message all last = restate_more _ up message all last

clock_restates : (picture : Option (List Piece)) (clock : ClockState)
    → AllRestate picture (clock_message clock ∷ [])
clock_restates picture clock = search rules

-- a dump sent at rest is the picture to come
reply_restates : (x : MachineState) (reply : Reply) (later : List Reply) → IsSound x
    → IsAtRest x.board (reply ∷ later)
    → AllRestate (coming_picture x) (reply_message x.board reply ∷ [])
reply_restates x reply later sound rest = search (rules, clock_restates)

-- ---- the moves

take_restates : (x : MachineState) (down : List EventContent) → Restates x
    → Restates (after_take x down)
take_restates x down all = search rules

send_restates : (x : MachineState) (owed : List Reply) → IsSound x → Restates x
    → IsAtRest x.board owed → Restates (after_reply x owed)
send_restates x owed sound all rest = search (rules, restate_more, reply_restates)

hear_restates : (x : MachineState) (up : List Content) → Restates x → AllRestate x.picture up
    → Restates (after_hear x up)
hear_restates x up whole all = search rules

pub move_restates : (x : MachineState) (move : Move) → IsSound x → Restates x → SendsAtRest x move
    → Restates (after_move x move)
move_restates x move sound all rest =
    search (rules, take_restates, send_restates, restate_more, clock_restates, hear_restates)

module _
    (stays_sound : (x : MachineState) (move : Move) → IsSound x → IsSound (after_move x move)) where
  pub moves_restate : (x : MachineState) (moves : List Move) → IsSound x → Restates x
      → DumpsAtRest x moves → Restates (after_moves x moves)
  moves_restate x [] sound all rest = all
  moves_restate x (move ∷ moves) sound all rest =
      moves_restate (after_move x move) moves (stays_sound x move sound)
      (move_restates x move sound all rest.0) rest.1
