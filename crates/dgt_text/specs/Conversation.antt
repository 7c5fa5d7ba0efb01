-- The messages that a board sends and the events that it hears, step by step.
use Rattle.std.specs.Prelude.{◌≡◌, ℕ, List, [], ◌∷◌, ◌++◌, Some, None}
use Rattle.dgt_message.specs.Content.{Content}
use Rattle.dgt_message.specs.Encoding.{encoding}
use Rattle.dgt_command.specs.Content.{EventContent}
use Rattle.dgt_command.specs.Encoding.{AreBytes}
use Rattle.dgt_command.specs.Words.{Divides}
use Rattle.dgt_board.specs.State.{BoardState, effect}
use Rattle.dgt_board.specs.Sending.{after_sending, next_message}
use Rattle.dgt_board.specs.View.{BoardView, IsBoard}

-- the board sends a message, or takes a command or a fault
pub data Exchange : Type 0 where
  sent : (message : Content) → Exchange
  heard : (event : EventContent) → Exchange

-- Steps that lead from one board to another. A message that is sent is the next one in order. An
-- event is heard only if no message is left to send.
abbrev pub Converses : BoardState → List Exchange → BoardState → Type 0
Converses before [] after = before ≡ after
Converses before (sent message ∷ steps) after =
    (next_message before ≡ Some message) × Converses (after_sending before message) steps after
Converses before (heard event ∷ steps) after =
    (next_message before ≡ None) × Converses (effect before event) steps after

-- the events heard
abbrev pub events_heard : List Exchange → List EventContent
events_heard [] = []
events_heard (sent message ∷ steps) = events_heard steps
events_heard (heard event ∷ steps) = event ∷ events_heard steps

-- the encodings of the messages, in a row
abbrev pub bytes_sent : List Exchange → List ℕ
bytes_sent [] = []
bytes_sent (sent message ∷ steps) = encoding message ++ bytes_sent steps
bytes_sent (heard event ∷ steps) = bytes_sent steps

-- in these steps the board hears these bytes, after its unfinished command
pub record Hears (before : BoardView) (bytes : List ℕ) (steps : List Exchange)
    (after : BoardView) : Type 0 where
  pub conversation : Converses before.state steps after.state
  pub heard : Divides (before.partial ++ bytes) (events_heard steps) after.partial

-- it hears them, and has sent all messages that it has to send
pub record Answers (before : BoardView) (bytes : List ℕ) (steps : List Exchange)
    (after : BoardView) : Type 0 where
  pub hears : Hears before bytes steps after
  pub settled : next_message after.state ≡ None

-- it hears a prefix of them
pub record HearsPrefix (before : BoardView) (bytes : List ℕ) (steps : List Exchange)
    (after : BoardView) : Type 0 where
  pub prefix : List ℕ
  pub rest : List ℕ
  pub whole : bytes ≡ prefix ++ rest
  pub hears : Hears before prefix steps after

-- ---- one conversation

-- each board has an answer to each list of bytes
abbrev pub EachIsAnswered : Type 0
EachIsAnswered =
    (before : BoardView) (bytes : List ℕ) → IsBoard before → AreBytes bytes
    → (steps : List Exchange) × (after : BoardView) × Answers before bytes steps after

-- and only one
abbrev pub EachIsAnsweredOnce : Type 0
EachIsAnsweredOnce =
    (before after other : BoardView) (bytes : List ℕ) (steps others : List Exchange)
    → Answers before bytes steps after → Answers before bytes others other
    → (steps ≡ others) × (after ≡ other)

-- what a board does while it hears bytes is a prefix of its answer
abbrev pub EachPrefixGoesOn : Type 0
EachPrefixGoesOn =
    (before between after : BoardView) (bytes : List ℕ) (steps others : List Exchange)
    → HearsPrefix before bytes steps between → Answers before bytes others after
    → (more : List Exchange) × (others ≡ steps ++ more) × Converses between.state more after.state
