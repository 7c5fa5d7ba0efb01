-- What a message from the board reports of its squares and of its clock.
use Rattle.{std.{proofs.Common.{◌≡◌, refl, ◌⊎◌, ℕ, List, [], ◌∷◌, ◌++◌, Option, Some, None, length, rules}, specs.Prelude.{IsTrue}}, dgt_values.specs.declared.pieces.Piece.{Piece}}
use Rattle.{dgt_message.specs.{Clock.{ClockState}, Content.{Content, clock_message}, Picture.{clock_after, clock_after_all, picture_after, picture_after_all}}, dgt_board.specs.Sending.{field_of}}
use Rattle.dgt_board.specs.{Sending.{reply_message, reported_squares_after, reported_clock_after, times_owed_after}, State.{BoardState, is_reported, owed_when_handed, follows_clock}}
use Rattle.{dgt_board.specs.declared.{modes.Mode.{Mode}, replies.Reply.{Reply}}, dgt_link.specs.Sound.{IsUnknownOr}}

pub picture_after_all-append : (picture : Option (List Piece)) (up : List Content)
    (message : Content)
    → picture_after_all picture (up ++ message ∷ [])
    ≡ picture_after (picture_after_all picture up) message
picture_after_all-append picture [] message = refl
picture_after_all-append picture (first ∷ up) message =
    picture_after_all-append (picture_after picture first) up message

pub clock_after_all-append : (clock : Option ClockState) (up : List Content) (message : Content)
    → clock_after_all clock (up ++ message ∷ []) ≡ clock_after (clock_after_all clock up) message
clock_after_all-append clock [] message = refl
clock_after_all-append clock (first ∷ up) message =
    clock_after_all-append (clock_after clock first) up message

pub handed_or_reported : (mode : Mode) (reported : Option ClockState) (clock : ClockState)
    → IsTrue (follows_clock mode)
    → IsTrue (owed_when_handed mode (is_reported reported clock)) ⊎ (reported ≡ Some clock)
handed_or_reported mode reported clock h = search rules

-- what the board counts as reported after a message is what the host then knows
pub record ReportedIsHeard (board : BoardState) (message : Content) : Type 0 where
  pub squares : length board.squares ≡ 64 → length board.reported_squares ≡ 64
      → length (reported_squares_after board message) ≡ 64
  pub picture : picture_after (Some board.reported_squares) message
      ≡ Some (reported_squares_after board message)
  pub first_picture : IsUnknownOr (picture_after None message)
      (Some (reported_squares_after board message))
  pub clock : clock_after board.reported_clock message ≡ reported_clock_after board message
  pub first_clock : IsUnknownOr (clock_after None message) (reported_clock_after board message)
  pub followed : (reported_clock_after board message ≡ Some board.clock) ⊎
      ((reported_clock_after board message ≡ board.reported_clock)
      × (times_owed_after board message ≡ board.times_owed))

pub field_reports : (board : BoardState) (square : ℕ)
    → ReportedIsHeard board (field_of board square)
field_reports board square = search rules

pub clock_reports : (board : BoardState) → ReportedIsHeard board (clock_message board.clock)
clock_reports board = search rules

-- a message that reports nothing of squares and clock
pub record IsPlain (board : BoardState) (message : Content) : Type 0 where
  pub squares : reported_squares_after board message ≡ board.reported_squares
  pub picture : (seen : Option (List Piece)) → picture_after seen message ≡ seen
  pub reported_clock : reported_clock_after board message ≡ board.reported_clock
  pub clock : (seen : Option ClockState) → clock_after seen message ≡ seen
  pub times_owed : times_owed_after board message ≡ board.times_owed

pub reply_reports : (board : BoardState) (reply : Reply)
    → ReportedIsHeard board (reply_message board reply)
reply_reports board reply = search rules

pub picture_reported : (board : BoardState) (message : Content) → ReportedIsHeard board message
    → (picture : Option (List Piece)) (up : List Content)
    → IsUnknownOr (picture_after_all picture up) (Some board.reported_squares)
    → IsUnknownOr (picture_after_all picture (up ++ message ∷ []))
    (Some (reported_squares_after board message))
picture_reported board message reports picture up h = search (rules, picture_after_all-append)

pub clock_reported_of : (board : BoardState) (message : Content) → ReportedIsHeard board message
    → (clock : Option ClockState) (up : List Content)
    → IsUnknownOr (clock_after_all clock up) board.reported_clock
    → IsUnknownOr (clock_after_all clock (up ++ message ∷ [])) (reported_clock_after board message)
clock_reported_of board message reports clock up h = search (rules, clock_after_all-append)
