-- A follower's request is a list of acts of a faulty world.
use Rattle.std.proofs.{Common.{◌≡◌, ◌<◌, Bool, false, Some, Ok, refl, ap, subst, ℕ, List, [], ◌∷◌, ◌++◌, append_assoc, append-nil, length, take, drop, rules, arith}, lemmas.Grind.{common_steps}}
use Rattle.{std.proofs.lemmas.List.{length-append, take_at}, dgt_values.specs.declared.kinds.Kind.{Kind}, dgt_command.specs.{Content.{CommandContent}, Encoding.{AreBytes, command_encoding}}}
use Rattle.dgt_follow.specs.{Follower.{Asks, FollowerView, asking_of, host_after_asking}, Pace.{PaceView, asking, asking_bytes, clock_request, mode_command, pace_at}, declared.asking.Asking.{Asking}}
use Rattle.{dgt_follow.specs.declared.asking.UpdateMode.{UpdateMode}, dgt_host.specs.Host.{HostView, awaits_too_many, host_awaiting, restart_bytes, without_awaited}}
use Rattle.{dgt_link.specs.{Faults.{FaultyContent, FaultyStep, sends}, View.{LineContents, WorldView, overflows, with_bytes}, declared.acts.Outcome.{Outcome}}, dgt_followed.specs.Followed.{HasRoom}}
use Rattle.dgt_followed.specs.Followed.{RunsDone, after_writing, asking_acts, reading_acts}

-- ---- a heartbeat is sent only while replies and patience are left

pub heartbeat_is_free : (pace : PaceView) (full : Bool) (now : ℕ)
    → asking pace full now ≡ Asking.Heartbeat → full ≡ false
heartbeat_is_free pace full now e = grind (arith, common_steps)

pub heartbeat_is_left : (pace : PaceView) (full : Bool) (now : ℕ)
    → asking pace full now ≡ Asking.Heartbeat → 0 < pace.left
heartbeat_is_left pace full now e = grind (arith, common_steps)

identify_is_free : (pace : PaceView) (full : Bool) (now : ℕ)
    → asking pace full now ≡ Asking.Identify → full ≡ false
identify_is_free pace full now e = grind (arith, common_steps)

-- ---- one act

pub fits : (line : LineContents) (bytes : List ℕ) → HasRoom line bytes
    → overflows line bytes ≡ false
fits line bytes room = search rules

one_byte : (b : ℕ) → b < 256 → AreBytes (b ∷ [])
one_byte b small i = search rules

pub mode_done : (mode : UpdateMode) (world : WorldView)
    → HasRoom world.down (command_encoding (mode_command mode))
    → FaultyStep (sends (mode_command mode)) world Outcome.Done
    (record world { down = with_bytes world.down (command_encoding (mode_command mode)) })
mode_done mode world room = search (rules, fits, one_byte, append-nil)

dump_done : (world : WorldView) → awaits_too_many world.host (Some Kind.Dump) ≡ false
    → HasRoom world.down (command_encoding CommandContent.Dump)
    → FaultyStep (sends CommandContent.Dump) world Outcome.Done
    (after_writing world (host_awaiting world.host (Some Kind.Dump))
    (command_encoding CommandContent.Dump))
dump_done world few room = search (rules, fits, one_byte)

serial_done : (world : WorldView) → awaits_too_many world.host (Some Kind.Serial) ≡ false
    → HasRoom world.down (command_encoding CommandContent.Serial)
    → FaultyStep (sends CommandContent.Serial) world Outcome.Done
    (after_writing world (host_awaiting world.host (Some Kind.Serial))
    (command_encoding CommandContent.Serial))
serial_done world few room = search (rules, fits, one_byte)

restart_done : (world : WorldView) → HasRoom world.down restart_bytes
    → FaultyStep FaultyContent.Restart world Outcome.Done
    (after_writing world (host_awaiting (without_awaited world.host) (Some Kind.Dump))
    restart_bytes)
restart_done world room = search (rules, fits)

-- ---- a request

-- the request of the clock, if the mode reports it
reading_done : (mode : UpdateMode) (world : WorldView) → HasRoom world.down (clock_request mode)
    → RunsDone (reading_acts mode) world
    (record world { down = with_bytes world.down (clock_request mode) })
reading_done mode world room = search (rules, append-nil, fits, one_byte)

-- there is room for the first bytes, for the next and for the last
room_first : (line : LineContents) (first next last : List ℕ) → HasRoom line (first ++ next ++ last)
    → HasRoom line first
room_first line first next last room = omega (arith, length-append {A = ℕ})

room_next : (line : LineContents) (first next last : List ℕ) → HasRoom line (first ++ next ++ last)
    → HasRoom (with_bytes line first) next
room_next line first next last room = omega (arith, length-append {A = ℕ})

room_last : (line : LineContents) (first next last : List ℕ) → HasRoom line (first ++ next ++ last)
    → HasRoom (with_bytes (with_bytes line first) next) last
room_last line first next last room = omega (arith, length-append {A = ℕ})

-- the line with all of them, in order
in_a_row : (world : WorldView) (host : HostView) (first next last : List ℕ)
    → record world
    { host = host; down = with_bytes (with_bytes (with_bytes world.down first) next) last }
    ≡ after_writing world host (first ++ next ++ last)
in_a_row world host first next last = simp append_assoc

-- the effect of a request on a world with room for it
abbrev after_acts : UpdateMode → Asking → WorldView → WorldView
after_acts mode what world =
    after_writing world (host_after_asking what world.host) (asking_bytes mode what)

-- two acts, and the request of the clock
acts_and_reading : (mode : UpdateMode) (one two : FaultyContent) (first next : List ℕ)
    (world second third : WorldView) (host : HostView)
    → FaultyStep one world Outcome.Done second → FaultyStep two second Outcome.Done third
    → third ≡ record world { host = host; down = with_bytes (with_bytes world.down first) next }
    → HasRoom world.down (first ++ next ++ clock_request mode)
    → RunsDone (one ∷ two ∷ reading_acts mode) world
    (after_writing world host (first ++ next ++ clock_request mode))
acts_and_reading mode one two first next world second third host step later is room =
    let read : RunsDone (reading_acts mode) third
    (record third { down = with_bytes third.down (clock_request mode) })
    = reading_done mode third (rw is (room_last world.down first next (clock_request mode) room)) in
    let ends : record third { down = with_bytes third.down (clock_request mode) }
    ≡ after_writing world host (first ++ next ++ clock_request mode)
    = rw is (in_a_row world host first next (clock_request mode)) in
    let P : WorldView → Type 0 = λ w. RunsDone (reading_acts mode) third w in
    (second, step, (third, later, subst P ends read))

acts_done : (mode : UpdateMode) (what : Asking) (world : WorldView)
    → (what ≡ Asking.Heartbeat → awaits_too_many world.host (Some Kind.Dump) ≡ false)
    → (what ≡ Asking.Identify → awaits_too_many world.host (Some Kind.Serial) ≡ false)
    → HasRoom world.down (asking_bytes mode what)
    → RunsDone (asking_acts mode what) world (after_acts mode what world)
acts_done mode Asking.Nothing world few free room =
    ap (λ (bytes : List ℕ). record world { down = record world.down { bytes = bytes } })
    (append-nil world.down.bytes)
acts_done mode Asking.Identify world few free room = (_, serial_done world (free refl) room, refl)
acts_done mode Asking.Heartbeat world few free room =
    let first = command_encoding (mode_command mode) in
    let next = command_encoding CommandContent.Dump in
    let last = clock_request mode in
    acts_and_reading mode _ _ first next world _ _ _
    (mode_done mode world (room_first world.down first next last room))
    (dump_done _ (few refl) (room_next world.down first next last room)) refl room
acts_done mode Asking.Anew world few free room =
    let next = command_encoding (mode_command mode) in
    let last = clock_request mode in
    acts_and_reading mode _ _ restart_bytes next world _ _ _
    (restart_done world (room_first world.down restart_bytes next last room))
    (mode_done mode _ (room_next world.down restart_bytes next last room)) refl room

-- the bytes at the beginning of a slice
pub prefix_of : (bytes old new : List ℕ) (written : ℕ) → written ≡ length bytes
    → new ≡ bytes ++ drop written old → take written new ≡ bytes
prefix_of bytes old new written e f = search (rules, take_at)

pub asking_is_acts : (follower after : FollowerView) (now written : ℕ) (old new : List ℕ)
    (world : WorldView) → Asks (asking_of follower now) now follower after old new (Ok written)
    → world.host ≡ follower.host
    → HasRoom world.down (asking_bytes follower.pace.mode (asking_of follower now))
    → RunsDone (asking_acts follower.pace.mode (asking_of follower now)) world
    (after_writing world after.host (take written new))
asking_is_acts follower after now written old new world asked same room =
    let mode = follower.pace.mode in
    let what = asking_of follower now in
    let bytes = asking_bytes mode what in
    let pace = pace_at follower.pace now in
    let full = awaits_too_many follower.host (Some Kind.Dump) in
    let done = acts_done mode what world (λ is. rw same (heartbeat_is_free pace full now is))
    (λ is. rw same (identify_is_free pace full now is)) room in
    search (rules, prefix_of)
