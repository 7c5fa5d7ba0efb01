-- Each move keeps a sound state sound, and an exact one exact.
use Rattle.std.proofs.{Common.{◌≡◌, refl, ◌∙◌, List, [], ◌∷◌, ◌++◌, ◌&&◌, length, append_assoc, rules}, lemmas.{Bool.{cond_both}, List.{length-set, Elements.{filter_map-append}}}}
use Rattle.{std.specs.{List.{cons_option}, Prelude.{filter_map, map, option_to_list}}, dgt_values.specs.declared.{kinds.Kind.{Kind}, pieces.Piece.{Piece}}, dgt_message.specs.Clock.{ClockState}}
use Rattle.{dgt_message.specs.Content.{Content, answered_kind}, dgt_command.specs.{Content.{CommandContent, EventContent, requested_kind}, Words.{IsNoiseList}}, dgt_board.specs.Sending.{differs}}
use Rattle.{dgt_board.specs.{Sending.{field_of}, State.{IdentityContent, updates}, declared.replies.Reply.{Reply}}, dgt_link.specs.Machine.{IsHostBreak, IsSending, Move, MachineState, commands_anew}}
use Rattle.dgt_link.specs.{Machine.{new_state, state_of_board, after_move, after_reported, after_take, after_reply, after_hear}, Sound.{IsExact, IsSound, IsSubsequence, coming_kinds, kind_of_event}}
use Rattle.dgt_link.{specs.Sound.{kind_of_reply}, proofs.MessageReports.{ReportedIsHeard, field_reports, picture_reported, clock_reported_of, clock_after_all-append, handed_or_reported}}
use Rattle.dgt_link.proofs.{Subsequences.{subsequence_at_end, subsequence_append, awaited_after-subsequence, moved_over}, Taking.{effect-kinds, nothing_of_noise}}

-- the state with other replies owed
abbrev owing : MachineState → List Reply → MachineState
owing x owed = record x { board = record x.board { owed = owed } }

-- ---- sending a message of the first owed kind

module _ (x : MachineState) (owed : List Reply) (message : Content)
    (reports : ReportedIsHeard (record x.board { owed = owed }) message)
    (first : filter_map kind_of_reply x.board.owed
    ≡ cons_option (answered_kind message) (filter_map kind_of_reply owed)) where
  send-kinds : coming_kinds (after_reported (owing x owed) message) ≡ coming_kinds x
  send-kinds = search (rules, filter_map-append, moved_over)

  send_sound : IsSound x → IsSound (after_reported (owing x owed) message)
  send_sound sound = search (rules, picture_reported, clock_reported_of, send-kinds)

  send_exact : IsExact x → IsExact (after_reported (owing x owed) message)
  send_exact exact = search (rules, send_sound, clock_after_all-append, send-kinds)

-- ---- the moves, one by one

reply_sound : (x : MachineState) (owed : List Reply) → x.board.owed ≡ owed → IsSound x
    → IsSound (after_reply x owed)
reply_sound x owed e sound = search (rules, send_sound)

reply_exact : (x : MachineState) (owed : List Reply) → x.board.owed ≡ owed → IsExact x
    → IsExact (after_reply x owed)
reply_exact x owed e exact = search (rules, send_exact)

-- requesting or taking a reply keeps the kinds to come
pub ask-kinds : (x : MachineState) (command : CommandContent)
    → coming_kinds (after_move x (Move.Ask command))
    ≡ coming_kinds x ++ option_to_list (requested_kind command)
ask-kinds x command = search (rules, filter_map-append, append_assoc)

take-kinds : (x : MachineState) (event : EventContent) (rest : List EventContent)
    → x.down ≡ event ∷ rest → coming_kinds (after_take x (event ∷ rest)) ≡ coming_kinds x
take-kinds x event rest e = search (rules, effect-kinds)

take_sound : (x : MachineState) (down : List EventContent) → x.down ≡ down → IsSound x
    → IsSound (after_take x down)
take_sound x down e sound = search (rules, take-kinds)

take_exact : (x : MachineState) (down : List EventContent) → x.down ≡ down → IsExact x
    → IsExact (after_take x down)
take_exact x down e exact = search (rules, take-kinds)

hear_sound : (x : MachineState) (up : List Content) → x.up ≡ up → IsSound x
    → IsSound (after_hear x up)
hear_sound x up e sound = search (rules, awaited_after-subsequence)

hear_exact : (x : MachineState) (up : List Content) → x.up ≡ up → IsExact x
    → IsExact (after_hear x up)
hear_exact x up e exact = search (rules, hear_sound)

pub new_sound : (position : List Piece) (clock : ClockState) (identity : IdentityContent)
    → length position ≡ 64 → IsSound (new_state position clock identity)
new_sound position clock identity h = search rules

pub new_exact : (position : List Piece) (clock : ClockState) (identity : IdentityContent)
    → length position ≡ 64 → IsExact (new_state position clock identity)
new_exact position clock identity h =
    record { sound = new_sound position clock identity h; clock = refl; awaited = refl }

pub noise-kinds : (noise : List EventContent) → IsNoiseList noise
    → filter_map kind_of_event noise ≡ []
noise-kinds noise is_noise = search (rules, nothing_of_noise)

-- of the requests of a host that starts over, only a dump has a kind
host_break-kinds : (x : MachineState) (noise : List EventContent) (is_noise : IsNoiseList noise)
    → coming_kinds (after_move x (Move.HostBreak noise is_noise))
    ≡ filter_map kind_of_reply x.board.owed ++ Kind.Dump ∷ []
host_break-kinds x noise is_noise = search (rules, filter_map-append, noise-kinds)

-- ---- every move

-- other commands are under way, and the awaited kinds are among the kinds to come with them
pub asked_sound : (x : MachineState) (down : List EventContent) (awaited : List Kind) → IsSound x
    → IsSubsequence awaited (coming_kinds (record x { down = down }))
    → IsSound (record x { down = down; awaited = awaited })
asked_sound x down awaited sound coming = assumption

-- what the host knows and what is under way is forgotten
pub board_sound : (x : MachineState) → IsSound x → IsSound (state_of_board x.board)
board_sound x sound = search rules

pub taking-kinds : (x : MachineState) → coming_kinds (after_move x Move.Take) ≡ coming_kinds x
taking-kinds x = search (rules, take-kinds)

replying-kinds : (x : MachineState) (owed : List Reply) → x.board.owed ≡ owed
    → coming_kinds (after_reply x owed) ≡ coming_kinds x
replying-kinds x owed e = search (rules, send-kinds)

pub sending-kinds : (x : MachineState) (move : Move) → IsSending move
    → coming_kinds (after_move x move) ≡ coming_kinds x
sending-kinds x Move.Reply is = replying-kinds x x.board.owed refl
sending-kinds x (Move.Report square) is =
    cond_both (updates x.board.mode && differs x.board square)
    (after_reported x (field_of x.board square)) x
    (λ (y : MachineState). coming_kinds y ≡ coming_kinds x)
    (λ h. send-kinds x x.board.owed (field_of x.board square) (field_reports x.board square) refl)
    (λ h. refl)
sending-kinds x Move.ReportClock is = search (rules, send-kinds)
sending-kinds x _ none = absurd none

pub move_sound : (x : MachineState) (move : Move) → IsSound x → IsSound (after_move x move)
move_sound x (Move.Change square piece) sound =
    assumption (length-set x.board.squares square piece ∙ sound.squares)
move_sound x (Move.HandClock clock) sound =
    assumption (handed_or_reported x.board.mode x.board.reported_clock clock)
move_sound x (Move.Ask command) sound = search (rules, ask-kinds, subsequence_append)
move_sound x Move.Take sound = take_sound x x.down refl sound
move_sound x Move.Reply sound = reply_sound x x.board.owed refl sound
move_sound x (Move.Report square) sound =
    cond_both (updates x.board.mode && differs x.board square)
    (after_reported x (field_of x.board square)) x IsSound
    (λ h. send_sound x x.board.owed (field_of x.board square) (field_reports x.board square) refl
    sound) (λ h. sound)
move_sound x Move.ReportClock sound = search (rules, send_sound)
move_sound x Move.Hear sound = hear_sound x x.up refl sound
move_sound x Move.Break sound =
    new_sound x.board.squares x.board.clock x.board.identity sound.squares
move_sound x (Move.HostBreak noise is_noise) sound =
    asked_sound (state_of_board x.board) (noise ++ map EventContent.Read commands_anew)
    (Kind.Dump ∷ []) (board_sound x sound) (search (rules, host_break-kinds, subsequence_at_end))

-- both sides are as new, except for the squares, the clock and the identity
pub break_exact : (x : MachineState) → IsSound x → IsExact (after_move x Move.Break)
break_exact x sound = new_exact x.board.squares x.board.clock x.board.identity sound.squares

pub move_exact : (x : MachineState) (move : Move) → ¬ (IsHostBreak move) → IsExact x
    → IsExact (after_move x move)
move_exact x (Move.Change square piece) other exact = search rules
move_exact x (Move.HandClock clock) other exact = search rules
move_exact x (Move.Ask command) other exact = record {
  sound = move_sound x (Move.Ask command) exact.sound;
  clock = exact.clock;
  awaited = search (rules, ask-kinds);
}
move_exact x Move.Take other exact = take_exact x x.down refl exact
move_exact x Move.Reply other exact = reply_exact x x.board.owed refl exact
move_exact x (Move.Report square) other exact =
    cond_both (updates x.board.mode && differs x.board square)
    (after_reported x (field_of x.board square)) x IsExact
    (λ h. send_exact x x.board.owed (field_of x.board square) (field_reports x.board square) refl
    exact) (λ h. exact)
move_exact x Move.ReportClock other exact = search (rules, send_exact)
move_exact x Move.Hear other exact = hear_exact x x.up refl exact
move_exact x Move.Break other exact = break_exact x exact.sound
move_exact x (Move.HostBreak noise is_noise) other exact = absurd (other tt)
