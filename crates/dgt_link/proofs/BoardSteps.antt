-- The board's sending is the step of its act, in whatever world.
use Rattle.{std.proofs.Common.{◌≡◌, refl, Some}, dgt_message.specs.{Content.{Content}, Encoding.{Encodes, encoding}}, dgt_board.specs.{Sending.{after_sending, next_message}, View.{BoardView}}}
use Rattle.dgt_link.specs.{Act.{ActContent}, Step.{Step, sending_outcome}, View.{LineContents, WorldView, with_bytes}, declared.acts.Outcome.{Outcome}}

pub next_step : (line left : LineContents) (world : WorldView) (board after : BoardView)
    → Outcome.Done ≡ sending_outcome (next_message board.state) line
    → (message : Content) × (next_message board.state ≡ Some message)
    × Encodes message (encoding message)
    × (after ≡ record board { state = after_sending board.state message })
    × (left ≡ with_bytes line (encoding message))
    → Step ActContent.BoardSend (record world { board = board; up = line }) Outcome.Done
    (record world { board = after; up = left })
next_step line left world board after answers done =
    record { answers = answers; leaves = (done.0, done.1, done.2, rw (done.3, done.4) refl) }
