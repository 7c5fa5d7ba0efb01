-- A backlog falls with each sending, and rises by at most one with each command taken.
use Rattle.std.{proofs.Common.{arith, ◌≡◌, ◌+◌, ◌<◌, ◌≤◌, List, [], ◌∷◌, Some, true, length, length-append, rules}}
use Rattle.{dgt_message.specs.{Clock.{ClockState}, Content.{Content}}, dgt_command.specs.Content.{ClockContent}}
use Rattle.{dgt_command.specs.Content.{EventContent}, dgt_board.specs.{Sending.{after_sending, backlog, next_message}, State.{BoardState, IdentityContent}}}
use Rattle.dgt_board.{specs.{State.{acknowledgements, effect, effects}, declared.{modes.Mode.{Mode}}}, proofs.SendingLemmas.{few_news, left-at_most, left_by}}
use Rattle.dgt_board.proofs.SendingLemmas.{left_is, next_lowers}

-- all the squares that differ count
backlog_is : (board : BoardState) → backlog board ≡ left_by true board
backlog_is board = left_is (record board { mode = Mode.Update })

pub backlog-at_most : (board : BoardState) → backlog board ≤ length board.owed + 65
backlog-at_most board = left-at_most (record board { mode = Mode.Update })

pub backlog_lowers : (board : BoardState) (message : Content) → length board.reported_squares ≡ 64
    → next_message board ≡ Some message → backlog (after_sending board message) < backlog board
backlog_lowers board message all next = search (rules, backlog_is, next_lowers)

-- ---- a taking

acknowledgements-few : (clock : ClockState) (identity : IdentityContent) (message : ClockContent)
    → length (acknowledgements clock identity message) ≤ 1
acknowledgements-few clock identity message = search rules

-- a command adds at most one reply, or makes at most the clock owed
effect_raises : (board : BoardState) (event : EventContent)
    → left_by true (effect board event) ≤ left_by true board + 1
effect_raises board (EventContent.Read command) =
    search (rules, arith, length-append, few_news, acknowledgements-few)
effect_raises board event = omega arith

pub effects_raise : (board : BoardState) (events : List EventContent)
    → backlog (effects board events) ≤ backlog board + length events
effects_raise board [] = omega arith
effects_raise board (event ∷ events) =
    search (rules, effect_raises, backlog_is, effects_raise (effect board event) events)
