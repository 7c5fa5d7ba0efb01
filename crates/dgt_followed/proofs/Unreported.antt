-- A square that changed unreported when a dump was sent is a doubt.
use Rattle.{std.proofs.Common.{rules, ◌≡◌, ◌≢◌, Bool, true, false, Some, ℕ, List, [], ◌∷◌}, dgt_values.specs.declared.{kinds.Kind.{Kind}, pieces.Piece.{Piece}}}
use Rattle.{dgt_message.specs.Content.Content.{dump}, dgt_decode.specs.Grammar.{Message}, dgt_board.specs.declared.replies.Reply.{Reply}, dgt_host.specs.Confirmed.{same_pieces}}
use Rattle.{dgt_host.proofs.ConfirmedLemmas.{same_is}, dgt_follow.specs.Pace.{PaceView, disturbs, pace_after_event}, dgt_link.specs.Machine.{MachineState, Move, after_move}}

other_pieces : (a b : List Piece) → a ≢ b → same_pieces a b ≡ false
other_pieces a b other = search (rules, same_is)

contradicted : (pardons : Bool) (awaited : List Kind) (a b : List Piece) → a ≢ b
    → disturbs pardons awaited (Some a) (Message (dump b)) ≡ true
contradicted pardons awaited a b other = search (rules, other_pieces)

pub change_is_doubt : (x : MachineState) (pace : PaceView) (now : ℕ) (later : List Reply)
    → x.up ≡ [] → x.board.owed ≡ Reply.Of Kind.Dump ∷ later
    → x.picture ≡ Some x.board.reported_squares → x.board.squares ≢ x.board.reported_squares
    → ((after_move x Move.Reply).up ≡ dump x.board.squares ∷ [])
    × ((pace_after_event pace now (after_move x Move.Reply).awaited
    (after_move x Move.Reply).picture (Message (dump x.board.squares))).doubtful ≡ true)
change_is_doubt x pace now later none owed known other = search (rules, contradicted)
