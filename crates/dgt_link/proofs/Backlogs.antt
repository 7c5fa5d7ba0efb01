-- Facts about a board's backlog.
use Rattle.{std.proofs.Common.{◌≡◌, ◌+◌, ◌<◌, ◌≤◌, List, Some, length}, dgt_message.specs.Content.{Content}, dgt_command.specs.Content.{EventContent}, dgt_board.specs.Sending.{backlog, after_sending}}
use Rattle.dgt_board.specs.{Sending.{next_message}, State.{BoardState, effects}}

-- it falls by each message
abbrev pub BacklogFalls : Type 0
BacklogFalls = (board : BoardState) (message : Content) → length board.reported_squares ≡ 64
    → next_message board ≡ Some message → backlog (after_sending board message) < backlog board

-- a backlog rises by at most one for each event
abbrev pub BacklogRises : Type 0
BacklogRises = (board : BoardState) (events : List EventContent)
    → backlog (effects board events) ≤ backlog board + length events
