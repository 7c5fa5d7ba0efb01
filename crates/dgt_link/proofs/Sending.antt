-- What a board sends next is sent by one of the moves of the machine.
use Rattle.{std.{specs.Prelude.{slice_get, filter}, proofs.Common.{◌≡◌, refl, ◌⊎◌, inl, inr, ℕ, List, [], ◌∷◌, ◌++◌, Some, Bool, true, false, cond, map, rules}}, dgt_message.specs.Content.{Content}}
use Rattle.{dgt_message.specs.Content.{clock_message}, dgt_board.specs.{Sending.{after_sending, clock_news, differs, field_of, next_message, reply_message, unreported_squares}, State.{updates}}}
use Rattle.{dgt_board.specs.declared.replies.Reply.{Reply}, dgt_link.specs.Machine.{IsSending, Move, MachineState, after_move}}

abbrev sent_state : MachineState → Content → MachineState
sent_state x message = record x { board = after_sending x.board message; up = x.up ++ message ∷ [] }

-- a move that sends the message
abbrev SendsIt : MachineState → Content → Type 0
SendsIt x message = (move : Move) × IsSending move × (after_move x move ≡ sent_state x message)

-- the first of the field updates, or what comes after them
abbrev FirstField : Bool → (ℕ → Content) → (ℕ → Bool) → Content → Type 0
FirstField asks field test message =
    (square : ℕ) × (asks ≡ true) × (test square ≡ true) × (field square ≡ message)

first_kept : (field : ℕ → Content) (test : ℕ → Bool) (square : ℕ) (rest : List ℕ)
    (others : List Content) (message : Content) (passes : Bool) → test square ≡ passes
    → slice_get (map field (cond passes (square ∷ rest) rest) ++ others) 0 ≡ Some message
    → FirstField true field test message ⊎ (slice_get (map field rest ++ others) 0 ≡ Some message)
first_kept field test square rest others message passes e h = search rules

first_field : (asks : Bool) (field : ℕ → Content) (test : ℕ → Bool) (squares : List ℕ)
    (others : List Content) (message : Content)
    → slice_get (map field (cond asks (filter test squares) []) ++ others) 0 ≡ Some message
    → FirstField asks field test message ⊎ (slice_get others 0 ≡ Some message)
first_field false field test squares others message h = inr h
first_field true field test [] others message h = inr h
first_field true field test (square ∷ squares) others message h =
    elim (first_kept field test square (filter test squares) others message (test square) refl h)
    [ inl found ↦ inl found | inr later ↦ first_field true field test squares others message later ]

report_is_sent : (x : MachineState) (message : Content) → x.board.owed ≡ []
    → FirstField (updates x.board.mode) (field_of x.board) (differs x.board) message
    → SendsIt x message
report_is_sent x message none (square, asks, differing, same) = (
  Move.Report square,
  tt,
  search rules,
)

clock_is_sent : (x : MachineState) (message : Content) → x.board.owed ≡ []
    → (x.board.times_owed ≡ true) × (clock_message x.board.clock ≡ message) → SendsIt x message
clock_is_sent x message none (owed, same) = (
  Move.ReportClock,
  tt,
  search rules,
)

next_of : (x : MachineState) (owed : List Reply) (message : Content) → x.board.owed ≡ owed
    → slice_get (map (reply_message x.board) owed ++
    (map (field_of x.board) (unreported_squares x.board) ++ clock_news x.board)) 0 ≡ Some message
    → SendsIt x message
next_of x (first ∷ rest) message e h = (
  Move.Reply,
  tt,
  search rules,
)
next_of x [] message e h = search (rules, first_field, report_is_sent, clock_is_sent)

-- the message that a board sends next is sent by a move
pub next_is_sent : (x : MachineState) (message : Content) → next_message x.board ≡ Some message
    → SendsIt x message
next_is_sent x message h = next_of x x.board.owed message refl h
