-- The two halves of the promise, and how each move changes them.
use Rattle.std.proofs.{Common.{IsTrue, cond, Bool, ◌≡◌, ◌≢◌, refl, ap, ◌∙◌, ◌⊎◌, inl, inr, List, [], ◌∷◌, ◌++◌, Option, Some, ◌&&◌, arith, rules}, lemmas.Bool.{cond_both, false≢true}}
use Rattle.std.{proofs.lemmas.{Grind.{common_steps}, List.Elements.{filter_map-append, Contains-append_left, Contains-append_cases, Contains-push}}, specs.{List.{cons_option}, Prelude.{IsSome}}}
use Rattle.{std.specs.Prelude.{Contains, filter_map, map, unwrap_or}, dgt_values.specs.declared.{kinds.Kind.{Kind}, pieces.Piece.{Piece}}, dgt_message.specs.Content.{Content, clock_message}}
use Rattle.{dgt_message.specs.Picture.{picture_after, picture_after_all}, dgt_command.specs.{Content.{CommandContent, EventContent}, Words.{IsNoiseList}}, dgt_board.specs.Sending.{differs, field_of}}
use Rattle.dgt_board.specs.{Sending.{reply_message}, State.{BoardState, updates, command_mode, effect, replies_to, effects}, declared.{modes.Mode.{Mode}, replies.Reply.{Reply}}}
use Rattle.dgt_link.specs.{Machine.{IsHostBreak, Move, MachineState, commands_anew, after_move, after_reported, after_take, after_reply, after_hear}, Promise.{IsAsked, IsPromised, PictureIsComing}}
use Rattle.dgt_link.{specs.{Promise.{coming_mode, commands_after, event_mode, last_mode, mode_after, requests}, Sound.{coming_picture}}, proofs.Lists.{Contains-cons, nothing_contained}}
use Rattle.dgt_link.proofs.{MessageReports.{picture_after_all-append}, Taking.{nothing_of_noise}}

-- ---- the mode that is coming

pub last_mode-append : (before : Mode) (modes more : List Mode)
    → last_mode before (modes ++ more) ≡ last_mode (last_mode before modes) more
last_mode-append before [] more = refl
last_mode-append before (mode ∷ modes) more = last_mode-append mode modes more

last_mode-cons : (before : Mode) (mode : Option Mode) (rest : List Mode)
    → last_mode (unwrap_or mode before) rest ≡ last_mode before (cons_option mode rest)
last_mode-cons before mode rest = search rules

effect-mode : (board : BoardState) (event : EventContent)
    → (effect board event).mode ≡ unwrap_or (event_mode event) board.mode
effect-mode board event = search rules

-- ---- a picture that is known, or to come, stays so

pub picture_after_known : (seen : Option (List Piece)) (message : Content) → IsSome seen
    → IsSome (picture_after seen message)
picture_after_known seen message known = search rules

-- a picture to come, in its three ways: under way, owed, requested
abbrev Comes : Option (List Piece) → List Reply → List EventContent → Type 0
Comes seen owed down =
    IsSome seen
    ⊎ (Contains owed (Reply.Of Kind.Dump) ⊎ Contains down (EventContent.Read CommandContent.Dump))

-- another message under way
sent_comes : (picture : Option (List Piece)) (up : List Content) (message : Content)
    (owed : List Reply) (down : List EventContent) → Comes (picture_after_all picture up) owed down
    → Comes (picture_after_all picture (up ++ message ∷ [])) owed down
sent_comes picture up message owed down coming = search (rules, picture_after_all-append)

reply_comes : (board : BoardState) (picture : Option (List Piece)) (up : List Content)
    (first : Reply) (rest : List Reply) (down : List EventContent)
    → Comes (picture_after_all picture up) (first ∷ rest) down
    → Comes (picture_after_all picture (up ++ reply_message board first ∷ [])) rest down
reply_comes board picture up first rest down coming = search (rules, picture_after_all-append)

reply_keeps_picture : (x : MachineState) (owed : List Reply) → x.board.owed ≡ owed
    → PictureIsComing x → PictureIsComing (after_reply x owed)
reply_keeps_picture x [] e coming = coming
reply_keeps_picture x (first ∷ rest) e coming =
    reply_comes x.board x.picture x.up first rest x.down (rw e at coming)

-- the first command is taken
pub effect_owes : (board : BoardState) (event : EventContent) (reply : Reply)
    → Contains board.owed reply → Contains (effect board event).owed reply
effect_owes board (EventContent.Read command) reply h =
    Contains-append_left board.owed (replies_to board command) reply h
effect_owes board _ reply h = h

dump_owed : (board : BoardState) (event : EventContent)
    → event ≡ EventContent.Read CommandContent.Dump
    → Contains (effect board event).owed (Reply.Of Kind.Dump)
dump_owed board event e = rw e (Contains-push board.owed (Reply.Of Kind.Dump))

take_comes : (board : BoardState) (seen : Option (List Piece)) (event : EventContent)
    (rest : List EventContent) → Comes seen board.owed (event ∷ rest)
    → Comes seen (effect board event).owed rest
take_comes board seen event rest h4 = search (rules, effect_owes, dump_owed)

take_keeps_picture : (x : MachineState) (down : List EventContent) → x.down ≡ down
    → PictureIsComing x → PictureIsComing (after_take x down)
take_keeps_picture x [] e coming = coming
take_keeps_picture x (event ∷ rest) e coming =
    take_comes x.board (coming_picture x) event rest (rw e at coming)

hear_keeps_picture : (x : MachineState) (up : List Content) → x.up ≡ up → PictureIsComing x
    → PictureIsComing (after_hear x up)
hear_keeps_picture x up e coming = search rules

-- one more command under way
ask_comes : (seen : Option (List Piece)) (owed : List Reply) (down more : List EventContent)
    → Comes seen owed down → Comes seen owed (down ++ more)
ask_comes seen owed down more h4 = grind (arith, common_steps)

pub dump_asked : (x : MachineState) → PictureIsComing (after_move x (Move.Ask CommandContent.Dump))
dump_asked x = inr (inr (Contains-push x.down (EventContent.Read CommandContent.Dump)))

pub anew_is_coming : (x : MachineState) (noise : List EventContent) (is_noise : IsNoiseList noise)
    → PictureIsComing (after_move x (Move.HostBreak noise is_noise))
anew_is_coming x noise is_noise = grind (arith, common_steps)

-- only a break ends the first half of the promise
pub picture_keeps_coming : (x : MachineState) (move : Move) → move ≢ Move.Break → PictureIsComing x
    → PictureIsComing (after_move x move)
picture_keeps_coming x (Move.Change square piece) other coming = coming
picture_keeps_coming x (Move.HandClock clock) other coming = coming
picture_keeps_coming x (Move.Ask command) other coming =
    ask_comes (coming_picture x) x.board.owed x.down (EventContent.Read command ∷ []) coming
picture_keeps_coming x Move.Take other coming = take_keeps_picture x x.down refl coming
picture_keeps_coming x Move.Reply other coming = reply_keeps_picture x x.board.owed refl coming
picture_keeps_coming x (Move.Report square) other coming =
    cond_both (updates x.board.mode && differs x.board square)
    (after_reported x (field_of x.board square)) x PictureIsComing
    (λ h. sent_comes x.picture x.up (field_of x.board square) x.board.owed x.down coming)
    (λ h. coming)
picture_keeps_coming x Move.ReportClock other coming =
    cond_both x.board.times_owed (after_reported x (clock_message x.board.clock)) x PictureIsComing
    (λ h. sent_comes x.picture x.up (clock_message x.board.clock) x.board.owed x.down coming)
    (λ h. coming)
picture_keeps_coming x Move.Hear other coming = hear_keeps_picture x x.up refl coming
picture_keeps_coming x Move.Break other coming = absurd (other refl)
picture_keeps_coming x (Move.HostBreak noise is_noise) other coming =
    anew_is_coming x noise is_noise

pub break_ends : (x : MachineState) → ¬ (PictureIsComing (after_move x Move.Break))
break_ends x = search rules

-- ---- the second half: the mode that is coming

take-mode : (x : MachineState) (down : List EventContent) → x.down ≡ down
    → coming_mode (after_take x down) ≡ coming_mode x
take-mode x down e = search rules

reply-mode : (x : MachineState) (owed : List Reply)
    → coming_mode (after_reply x owed) ≡ coming_mode x
reply-mode x owed = search rules

hear-mode : (x : MachineState) (up : List Content) → coming_mode (after_hear x up) ≡ coming_mode x
hear-mode x up = search rules

ask-mode : (x : MachineState) (command : CommandContent)
    → coming_mode (after_move x (Move.Ask command))
    ≡ unwrap_or (command_mode command) (coming_mode x)
ask-mode x command = search (rules, filter_map-append, last_mode-append)

sent-mode : (x : MachineState) (message : Content) (test : Bool)
    → coming_mode (cond test (after_reported x message) x) ≡ coming_mode x
sent-mode x message test = search rules

pub noise-modes : (noise : List EventContent) → IsNoiseList noise → filter_map event_mode noise ≡ []
noise-modes noise is_noise = search (rules, nothing_of_noise)

pub anew-mode : (x : MachineState) (noise : List EventContent) (is_noise : IsNoiseList noise)
    → coming_mode (after_move x (Move.HostBreak noise is_noise)) ≡ Mode.UpdateBoard
anew-mode x noise is_noise = search (rules, filter_map-append, noise-modes)

-- the mode that is coming is that of the last command that sets one, or that of a break
pub move-mode : (x : MachineState) (move : Move)
    → coming_mode (after_move x move) ≡ mode_after (coming_mode x) (requests move)
move-mode x (Move.Change square piece) = refl
move-mode x (Move.HandClock clock) = refl
move-mode x (Move.Ask command) = ask-mode x command
move-mode x Move.Take = take-mode x x.down refl
move-mode x Move.Reply = reply-mode x x.board.owed
move-mode x (Move.Report square) = search rules
move-mode x Move.ReportClock = sent-mode x (clock_message x.board.clock) x.board.times_owed
move-mode x Move.Hear = hear-mode x x.up
move-mode x Move.Break = refl
move-mode x (Move.HostBreak noise is_noise) = anew-mode x noise is_noise

-- ---- the requests, and what they promise

-- what was requested is to come, after the mode that was to come before
pub record IsComing (commands : List CommandContent) (x : MachineState) : Type 0 where
  pub picture : Contains commands CommandContent.Dump → PictureIsComing x
  pub before : Mode
  pub mode : coming_mode x ≡ last_mode before (filter_map command_mode commands)

pub nothing_asked : (x : MachineState) → IsComing [] x
nothing_asked x = search rules

pub asked-mode : (commands : List CommandContent) (command : CommandContent) (before mode : Mode)
    → mode ≡ last_mode before (filter_map command_mode commands)
    → unwrap_or (command_mode command) mode
    ≡ last_mode before (filter_map command_mode (commands ++ command ∷ []))
asked-mode commands command before mode e = search (rules, filter_map-append, last_mode-append)

ask_comes_dump : (commands : List CommandContent) (x : MachineState) (command : CommandContent)
    → IsComing commands x → Contains (commands ++ command ∷ []) CommandContent.Dump
    → PictureIsComing (after_move x (Move.Ask command))
ask_comes_dump commands x command coming h =
    go (Contains-append_cases commands (command ∷ []) CommandContent.Dump h)
  where
    new : (command ≡ CommandContent.Dump) ⊎ Contains [] CommandContent.Dump
        → PictureIsComing (after_move x (Move.Ask command))
    new (inl e) = rw e (dump_asked x)
    new (inr none) = absurd (nothing_contained CommandContent.Dump none)

    go : Contains commands CommandContent.Dump ⊎ Contains (command ∷ []) CommandContent.Dump
        → PictureIsComing (after_move x (Move.Ask command))
    go (inl before) = picture_keeps_coming x (Move.Ask command) (λ e. cc) (coming.picture before)
    go (inr now) = new (Contains-cons CommandContent.Dump command [] now)

pub asked_anew-mode : (before : Mode) (commands : List CommandContent)
    → Mode.UpdateBoard
    ≡ last_mode before (filter_map command_mode (commands_after commands (map Some commands_anew)))
asked_anew-mode before commands =
    asked-mode (commands ++ CommandContent.UpdateBoard ∷ []) CommandContent.Dump before
    Mode.UpdateBoard
    (asked-mode commands CommandContent.UpdateBoard before
    (last_mode before (filter_map command_mode commands)) refl)

-- a move that requests nothing, and isn't a break
still_comes : (commands : List CommandContent) (x : MachineState) (move : Move) → move ≢ Move.Break
    → mode_after (coming_mode x) (requests move) ≡ coming_mode x → IsComing commands x
    → IsComing commands (after_move x move)
still_comes commands x move other same coming = record {
  picture = λ h. picture_keeps_coming x move other (coming.picture h);
  before = coming.before;
  mode = move-mode x move ∙ same ∙ coming.mode;
}

pub move_comes : (commands : List CommandContent) (x : MachineState) (move : Move)
    → IsComing commands x → IsComing (commands_after commands (requests move)) (after_move x move)
move_comes commands x (Move.Ask command) coming = record {
  picture = ask_comes_dump commands x command coming;
  before = coming.before;
  mode = ask-mode x command ∙ asked-mode commands command coming.before (coming_mode x) coming.mode;
}
move_comes commands x (Move.Change square piece) coming =
    still_comes commands x (Move.Change square piece) (λ e. cc) refl coming
move_comes commands x (Move.HandClock clock) coming =
    still_comes commands x (Move.HandClock clock) (λ e. cc) refl coming
move_comes commands x Move.Take coming = still_comes commands x Move.Take (λ e. cc) refl coming
move_comes commands x Move.Reply coming = still_comes commands x Move.Reply (λ e. cc) refl coming
move_comes commands x (Move.Report square) coming =
    still_comes commands x (Move.Report square) (λ e. cc) refl coming
move_comes commands x Move.ReportClock coming =
    still_comes commands x Move.ReportClock (λ e. cc) refl coming
move_comes commands x Move.Hear coming = still_comes commands x Move.Hear (λ e. cc) refl coming
move_comes commands x Move.Break coming = nothing_asked (after_move x Move.Break)
move_comes commands x (Move.HostBreak noise is_noise) coming = record {
  picture = λ h. anew_is_coming x noise is_noise;
  before = coming.before;
  mode = anew-mode x noise is_noise ∙ asked_anew-mode coming.before commands;
}

-- a requested mode holds whatever mode was before
asked_from_any : (before : Mode) (modes : List Mode) → IsTrue (updates (last_mode Mode.Idle modes))
    → IsTrue (updates (last_mode before modes))
asked_from_any before [] h = absurd (false≢true h)
asked_from_any before (mode ∷ modes) h = h

pub coming_promise : (commands : List CommandContent) (x : MachineState) → IsComing commands x
    → IsAsked commands → IsPromised x
coming_promise commands x coming asks = search (rules, asked_from_any)

pub anew_is_promised : (x : MachineState) (noise : List EventContent) (is_noise : IsNoiseList noise)
    → IsPromised (after_move x (Move.HostBreak noise is_noise))
anew_is_promised x noise is_noise =
    record { coming = anew_is_coming x noise is_noise; mode = rw (anew-mode x noise is_noise) refl }

-- ---- the picture to come of the host

pub dump_is_seen : (x : MachineState) (rest : List Reply) → x.board.owed ≡ Reply.Of Kind.Dump ∷ rest
    → coming_picture (after_move x Move.Reply)
    ≡ Some (after_move x Move.Reply).board.reported_squares
dump_is_seen x rest e = search (rules, picture_after_all-append)

pub picture_stays_known : (x : MachineState) (move : Move) → move ≢ Move.Break
    → ¬ (IsHostBreak move) → IsSome (coming_picture x) → IsSome (coming_picture (after_move x move))
picture_stays_known x move other also known = search (rules, picture_after_all-append)

-- ---- the effect of a board

effects-mode : (board : BoardState) (events : List EventContent)
    → (effects board events).mode ≡ last_mode board.mode (filter_map event_mode events)
effects-mode board [] = refl
effects-mode board (event ∷ events) =
    search (rules, effect-mode, last_mode-cons, effects-mode (effect board event) events)

pub noise_keeps_mode : (board : BoardState) (noise : List EventContent) → IsNoiseList noise
    → (effects board noise).mode ≡ board.mode
noise_keeps_mode board noise is_noise =
    effects-mode board noise ∙ ap (last_mode board.mode) (noise-modes noise is_noise)
