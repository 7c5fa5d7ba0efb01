-- What keeps a clock coming, and that it is the board's when the world is quiet.
use Rattle.std.proofs.{Common.{arith, false, ◌≡◌, ◌≢◌, refl, ◌⊎◌, inl, inr, List, [], ◌∷◌, ◌++◌, Option, Some, None, ◌&&◌, rules}, lemmas.{Grind.{common_steps}, Bool.{cond_both}}}
use Rattle.{std.{proofs.lemmas.List.Elements.{Contains-push}, specs.{List.{AllByRecursion}, Prelude.{IsSome, Contains}}}, dgt_message.specs.{Clock.{ClockState}, Content.{Content, clock_message}}}
use Rattle.{dgt_message.specs.Picture.{clock_after_all}, dgt_command.specs.Content.{CommandContent, EventContent}, dgt_board.specs.Sending.{differs, field_of, reply_message, reported_clock_after}}
use Rattle.{dgt_board.specs.{State.{BoardState, effect, updates}, declared.replies.Reply.{Reply}}, dgt_link.specs.{Act.{ActContent}, Clocks.{ClockIsComing, IsClockPromised}, Faults.{is_break}}}
use Rattle.dgt_link.specs.{Machine.{IsHostBreak, Move, MachineState, after_move, after_moves, after_reported, after_take, after_reply, after_hear}, Promise.{IsQuiet}, Sound.{IsSound, coming_clock}}
use Rattle.dgt_link.{specs.{Stands.{AreMovesOfStep}, declared.acts.Outcome.{Outcome}}, proofs.{Asking.{act_is_no_break, step_is_other}, MessageReports.{clock_after_all-append}}}
use Rattle.dgt_link.proofs.{Promises.{effect_owes}, Quiet.{quiet_up_to_date}}

-- a clock to come, in its four ways: under way, owed, requested, never reported
abbrev Comes : Option ClockState → Option ClockState → List Reply → List EventContent → Type 0
Comes seen reported owed down = IsSome seen ⊎ (Contains owed Reply.Clock
    ⊎ (Contains down (EventContent.Read CommandContent.Clock) ⊎ (reported ≡ None)))

-- a message goes under way
sent_comes : (board : BoardState) (clock : Option ClockState) (up : List Content)
    (message : Content) (owed : List Reply) (down : List EventContent)
    → Comes (clock_after_all clock up) board.reported_clock owed down
    → Comes (clock_after_all clock (up ++ message ∷ [])) (reported_clock_after board message) owed
    down
sent_comes board clock up message owed down coming = search (rules, clock_after_all-append)

-- the first owed reply goes under way
reply_comes : (board : BoardState) (clock : Option ClockState) (up : List Content) (first : Reply)
    (rest : List Reply) (down : List EventContent)
    → Comes (clock_after_all clock up) board.reported_clock (first ∷ rest) down
    → Comes (clock_after_all clock (up ++ reply_message board first ∷ []))
    (reported_clock_after board (reply_message board first)) rest down
reply_comes board clock up first rest down coming = search (rules, clock_after_all-append)

reply_keeps : (x : MachineState) (owed : List Reply) → x.board.owed ≡ owed → ClockIsComing x
    → ClockIsComing (after_reply x owed)
reply_keeps x [] e coming = coming
reply_keeps x (first ∷ rest) e coming =
    reply_comes x.board x.host_clock x.up first rest x.down (rw e at coming)

clock_owed : (board : BoardState) (event : EventContent)
    → event ≡ EventContent.Read CommandContent.Clock
    → Contains (effect board event).owed Reply.Clock
clock_owed board event e = rw e (Contains-push board.owed Reply.Clock)

-- noise reports nothing
effect_reported : (board : BoardState) (event : EventContent)
    → (effect board event).reported_clock ≡ board.reported_clock
effect_reported board event = search rules

take_comes : (board : BoardState) (seen : Option ClockState) (event : EventContent)
    (rest : List EventContent) → Comes seen board.reported_clock board.owed (event ∷ rest)
    → Comes seen (effect board event).reported_clock (effect board event).owed rest
take_comes board seen event rest (inl known) = inl known
take_comes board seen event rest (inr (inl owed)) =
    inr (inl (effect_owes board event Reply.Clock owed))
take_comes board seen event rest (inr (inr other)) = search (rules, clock_owed, effect_reported)

take_keeps : (x : MachineState) (down : List EventContent) → x.down ≡ down → ClockIsComing x
    → ClockIsComing (after_take x down)
take_keeps x [] e coming = coming
take_keeps x (event ∷ rest) e coming =
    take_comes x.board (coming_clock x) event rest (rw e at coming)

hear_keeps : (x : MachineState) (up : List Content) → x.up ≡ up → ClockIsComing x
    → ClockIsComing (after_hear x up)
hear_keeps x up e coming = search rules

ask_comes : (seen reported : Option ClockState) (owed : List Reply) (down more : List EventContent)
    → Comes seen reported owed down → Comes seen reported owed (down ++ more)
ask_comes seen reported owed down more (inl known) = inl known
ask_comes seen reported owed down more (inr (inl owes)) = inr (inl owes)
ask_comes seen reported owed down more (inr (inr other)) = grind (arith, common_steps)

-- only the breaks end it
clock_keeps_coming : (x : MachineState) (move : Move) → move ≢ Move.Break → ¬ (IsHostBreak move)
    → ClockIsComing x → ClockIsComing (after_move x move)
clock_keeps_coming x (Move.Change square piece) other also coming = coming
clock_keeps_coming x (Move.HandClock clock) other also coming = coming
clock_keeps_coming x (Move.Ask command) other also coming = search (rules, ask_comes)
clock_keeps_coming x Move.Take other also coming = take_keeps x x.down refl coming
clock_keeps_coming x Move.Reply other also coming = reply_keeps x x.board.owed refl coming
clock_keeps_coming x (Move.Report square) other also coming =
    cond_both (updates x.board.mode && differs x.board square)
    (after_reported x (field_of x.board square)) x ClockIsComing
    (λ h. sent_comes x.board x.host_clock x.up (field_of x.board square) x.board.owed x.down coming)
    (λ h. coming)
clock_keeps_coming x Move.ReportClock other also coming =
    cond_both x.board.times_owed (after_reported x (clock_message x.board.clock)) x ClockIsComing
    (search (rules, sent_comes)) (λ h. coming)
clock_keeps_coming x Move.Hear other also coming = hear_keeps x x.up refl coming
clock_keeps_coming x Move.Break other also coming = absurd (other refl)
clock_keeps_coming x (Move.HostBreak noise is_noise) other also coming = absurd (also tt)

moves_keep : (x : MachineState) (moves : List Move)
    → AllByRecursion (λ move. move ≢ Move.Break) moves
    → AllByRecursion (λ move. ¬ (IsHostBreak move)) moves → ClockIsComing x
    → ClockIsComing (after_moves x moves)
moves_keep x [] others also coming = coming
moves_keep x (move ∷ moves) others also coming =
    moves_keep (after_move x move) moves others.1 also.1
    (clock_keeps_coming x move others.0 also.0 coming)

pub step_is_no_break : (act : ActContent) (answer : Outcome) (moves : List Move)
    → act ≢ ActContent.Break → AreMovesOfStep act answer moves
    → AllByRecursion (λ move. move ≢ Move.Break) moves
step_is_no_break act answer moves other are = search (rules, act_is_no_break)

pub no_break : (act : ActContent) → is_break act ≡ false
    → (act ≢ ActContent.Break) × (act ≢ ActContent.HostBreak)
no_break act other = search rules

-- an act that isn't a break keeps a clock to come
pub step_keeps_clock : (x : MachineState) (act : ActContent) (answer : Outcome) (moves : List Move)
    → is_break act ≡ false → AreMovesOfStep act answer moves → ClockIsComing x
    → ClockIsComing (after_moves x moves)
step_keeps_clock x act answer moves other are coming =
    moves_keep x moves (step_is_no_break act answer moves (no_break act other).0 are)
    (step_is_other act answer moves (no_break act other).1 are) coming

-- a requested reading arrives
pub clock_is_asked : (x : MachineState) (moves : List Move)
    → AreMovesOfStep (ActContent.Host CommandContent.Clock) Outcome.Done moves
    → ClockIsComing (after_moves x moves)
clock_is_asked x moves e =
    rw e (inr (inr (inl (Contains-push x.down (EventContent.Read CommandContent.Clock)))))

-- ---- when everything is quiet

pub promised_clock : (x : MachineState) → IsSound x → IsClockPromised x → IsQuiet x
    → x.host_clock ≡ Some x.board.clock
promised_clock x sound promised quiet = search (rules, quiet_up_to_date)
