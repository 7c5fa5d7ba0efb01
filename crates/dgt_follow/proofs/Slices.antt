-- A slice after a host's request, with a mode's command and the clock's request.
use Rattle.std.proofs.Common.{◌≡◌, ◌≢◌, ◌+◌, ◌-◌, ◌<◌, ◌≤◌, ℕ, List, [], ◌∷◌, ◌++◌, Some, Ok, refl, sym, append_assoc, length, drop, take, slice_set, Option, arith, rules}
use Rattle.{std.proofs.{Math.Seq.{set-append_seam}, lemmas.List.{drop-append-le, drop-drop, length-append, length-drop, length-take, take-append-drop}}, dgt_values.specs.declared.kinds.Kind.{Kind}}
use Rattle.{dgt_command.specs.{Content.{CommandContent}, Encoding.{command_encoding}}, dgt_host.specs.Host.{HostView, Sends, follow_bytes, host_awaiting, restart_bytes, without_awaited}}
use Rattle.dgt_follow.specs.{Follower.{HostAsks}, Pace.{clock_request, mode_command, sent_bytes}, declared.asking.{Asking.{Asking}, UpdateMode.{UpdateMode}}}

-- a byte that is set at the end of the first bytes follows them
set_after : (xs ys : List ℕ) (n b : ℕ) → length xs ≡ n → 0 < length ys
    → slice_set (xs ++ ys) n b ≡ (xs ++ b ∷ []) ++ drop 1 ys
set_after xs ys n b long some = search (rules, set-append_seam, append_assoc)

set_in_slice : (bytes old : List ℕ) (n b : ℕ) → length bytes ≡ n → n + 1 ≤ length old
    → slice_set (bytes ++ drop n old) n b ≡ (bytes ++ b ∷ []) ++ drop (n + 1) old
set_in_slice bytes old n b long room =
    rw (← drop-drop 1 n old)
    (set_after bytes (drop n old) n b long (omega (arith, length-drop n old)))

-- ---- a request

-- the new slice has the clock's request after this many bytes of this one
abbrev RequestFollows : UpdateMode → ℕ → ℕ → List ℕ → List ℕ → Type 0
RequestFollows mode count written slice new =
    (bytes old : List ℕ) → length bytes ≡ count → slice ≡ bytes ++ drop count old
    → new ≡ (bytes ++ clock_request mode) ++ drop written old

pub heartbeat_asks : (mode : UpdateMode) (code sent written : ℕ) (before after : HostView)
    (old followed new : List ℕ) → command_encoding (mode_command mode) ≡ code ∷ [] → sent ≡ 2
    → followed ≡ follow_bytes ++ drop sent old → after ≡ host_awaiting before (Some Kind.Dump)
    → written ≡ 2 + length (clock_request mode) → written ≤ length old
    → RequestFollows mode 2 written (slice_set followed 0 code) new
    → HostAsks Asking.Heartbeat mode before after old new (Ok written)
heartbeat_asks mode code sent written before after old followed new encoded all e host count room
    follows =
    let bytes : List ℕ =
    command_encoding (mode_command mode) ++ command_encoding CommandContent.Dump in
    let two : length bytes ≡ 2 = search rules in
    let set : slice_set followed 0 code ≡ bytes ++ drop 2 old = search rules in
    let long : written ≡ length (bytes ++ clock_request mode)
    = omega (arith, count, two, length-append bytes (clock_request mode)) in
    ((long, room, follows bytes old two set), host)

pub anew_asks : (mode : UpdateMode) (code sent written : ℕ) (before after : HostView)
    (old begun new : List ℕ) → command_encoding (mode_command mode) ≡ code ∷ [] → sent ≡ 257
    → begun ≡ restart_bytes ++ drop sent old
    → after ≡ host_awaiting (without_awaited before) (Some Kind.Dump)
    → written ≡ 258 + length (clock_request mode) → written ≤ length old
    → RequestFollows mode 258 written (slice_set begun sent code) new
    → HostAsks Asking.Anew mode before after old new (Ok written)
anew_asks mode code sent written before after old begun new encoded all e host count room follows =
    let bytes : List ℕ = restart_bytes ++ command_encoding (mode_command mode) in
    let placed = set_in_slice restart_bytes old 257 code refl (omega (arith, count, room)) in
    let whole : length bytes ≡ 258 = search rules in
    let set : slice_set begun sent code ≡ bytes ++ drop 258 old = cc in
    let long : written ≡ length (bytes ++ clock_request mode)
    = omega (arith, count, whole, length-append bytes (clock_request mode)) in
    ((long, room, follows bytes old whole set), host)

-- ---- another command

some_bytes : (said : CommandContent) → 0 < length (command_encoding said)
some_bytes said = search rules

-- the bytes of a slice after those that were written into its first part
rest_after : (old : List ℕ) (written room : ℕ) → written ≤ length (take room old)
    → drop written (take room old) ++ drop room old ≡ drop written old
rest_after old written room within =
    rw (← drop-append-le written (take room old) (drop room old) within, take-append-drop room old)
    refl

-- A frame is written into all of a slice but its last byte, and the mode's command after it.
pub frame_sent : (mode : UpdateMode) (said : CommandContent) (kind : Option Kind)
    (code written room : ℕ) (before after : HostView) (old front : List ℕ)
    → length (command_encoding said) ≢ 1 → command_encoding (mode_command mode) ≡ code ∷ []
    → room ≡ length old - 1
    → Sends (record { kind = kind; bytes = command_encoding said }) before after (take room old)
    front (Ok written)
    → Sends (record { kind = kind; bytes = sent_bytes mode said }) before after old
    (slice_set (front ++ drop room old) written code) (Ok (written + 1))
frame_sent mode said kind code written room before after old front long encoded short sent =
    let bytes = command_encoding said in
    let all : sent_bytes mode said ≡ bytes ++ code ∷ [] = search rules in
    let within : written + 1 ≤ length old
    = omega (arith, some_bytes said, short, sent.1, sent.2, length-take room old) in
    let whole : front ++ drop room old ≡ bytes ++ drop written old
    = rw (sent.3, append_assoc, rest_after old written room sent.2) refl in
    let set = set_in_slice bytes old written code (sym sent.1) within in
    let longer = length-append bytes (code ∷ []) in
    rw all (sent.0, omega (arith, sent.1, longer), within, rw whole set, sent.4)

pub short_sent : (mode : UpdateMode) (said : CommandContent) → length (command_encoding said) ≤ 257
    → length (sent_bytes mode said) ≤ 259
short_sent mode said short = search (rules, length-append)
