-- The relation between a board and its host after any moves.
use Rattle.std.specs.Prelude.{◌≡◌, ◌⊎◌, List, [], ◌∷◌, ◌++◌, Option, Some, None, IsTrue, length}
use Rattle.std.specs.Prelude.{filter_map}
use Rattle.dgt_values.specs.declared.pieces.Piece.{Piece}
use Rattle.dgt_values.specs.declared.kinds.Kind.{Kind}
use Rattle.dgt_message.specs.Clock.{ClockState}
use Rattle.dgt_message.specs.Content.{answered_kind}
use Rattle.dgt_command.specs.Content.{EventContent, requested_kind}
use Rattle.dgt_board.specs.declared.replies.Reply.{Reply}
use Rattle.dgt_board.specs.State.{follows_clock}
use Rattle.dgt_message.specs.Picture.{clock_after_all, picture_after_all}
use Rattle.dgt_link.specs.Machine.{MachineState}

-- ---- what the host is yet to hear

-- the kind of the message that a reply becomes
abbrev pub kind_of_reply : Reply → Option Kind
kind_of_reply (Reply.Of kind) = Some kind
kind_of_reply _ = None

-- the kind of the reply that a command under way requests
abbrev pub kind_of_event : EventContent → Option Kind
kind_of_event (EventContent.Read command) = requested_kind command
kind_of_event _ = None

-- the picture, and the host's clock, once all messages under way are heard
abbrev pub coming_picture : MachineState → Option (List Piece)
coming_picture x = picture_after_all x.picture x.up

abbrev pub coming_clock : MachineState → Option ClockState
coming_clock x = clock_after_all x.host_clock x.up

-- the kinds of the messages under way, then of the replies owed, then of those requested
abbrev pub coming_kinds : MachineState → List Kind
coming_kinds x =
    filter_map answered_kind x.up
    ++ (filter_map kind_of_reply x.board.owed ++ filter_map kind_of_event x.down)

-- ---- sound and exact

-- the first list is the second without some of its elements
abbrev pub IsSubsequence : {X : Type 0} → List X → List X → Type 0
IsSubsequence [] ys = Unit {0}
IsSubsequence (x ∷ xs) [] = ⊥
IsSubsequence (x ∷ xs) (y ∷ ys) = ((x ≡ y) × IsSubsequence xs ys) ⊎ IsSubsequence (x ∷ xs) ys

abbrev pub IsUnknownOr : {X : Type 0} → Option X → Option X → Type 0
IsUnknownOr known reported = (known ≡ None) ⊎ (known ≡ reported)

pub record IsSound (x : MachineState) : Type 0 where
  -- both positions have 64 squares
  pub squares : length x.board.squares ≡ 64
  pub reported_squares : length x.board.reported_squares ≡ 64
  -- the picture to come is unknown, or the squares that the board has reported
  pub picture : IsUnknownOr (coming_picture x) (Some x.board.reported_squares)
  -- if the mode follows the clock, it is reported or owed
  pub followed : IsTrue (follows_clock x.board.mode) →
      IsTrue x.board.times_owed ⊎ (x.board.reported_clock ≡ Some x.board.clock)
  -- the host's clock to come is unknown, or the clock that the board has reported
  pub clock : IsUnknownOr (coming_clock x) x.board.reported_clock
  -- the awaited kinds are among the kinds to come, in their order
  pub awaited : IsSubsequence x.awaited (coming_kinds x)

-- a sound state in which nothing is to come that the host doesn't know of
pub record IsExact (x : MachineState) : Type 0 where
  pub sound : IsSound x
  pub clock : coming_clock x ≡ x.board.reported_clock
  pub awaited : x.awaited ≡ coming_kinds x
