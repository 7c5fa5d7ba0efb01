-- The effects of a follower's calls are happenings to it and to the world of its host.
use Rattle.std.proofs.{Common.{◌≡◌, ◌<◌, true, false, Ok, refl, ◌∙◌, ℕ, List, [], ◌∷◌, ◌++◌, append_assoc, append-nil, flat_map, length, subst, take, arith, rules}, lemmas.Bool.{false≢true}}
use Rattle.{std.proofs.lemmas.List.{length-append}, dgt_command.specs.{Content.{CommandContent, requested_kind}, Encoding.{EncodesCommand, command_encoding}}, dgt_host.specs.Host.{HostView, Request}}
use Rattle.{dgt_host.specs.Host.{Sends, awaits_too_many, host_after, host_awaiting}, dgt_follow.specs.{Calls.{Call, follower_after_call}, Follower.{Asks, FollowerView, asking_of, follower_after}}}
use Rattle.{dgt_follow.specs.{Pace.{KeepsCount, asking_bytes, mode_command, sent_bytes}, declared.asking.UpdateMode.{UpdateMode}}, dgt_link.specs.{Faults.{sends}, Step.{moves_nothing}}}
use Rattle.{dgt_link.specs.{View.{LineContents, WorldView, with_bytes, without_first}, declared.acts.Outcome.{Outcome}}, dgt_followed.specs.Followed.{FollowedView, HasRoom, after_writing}}
use Rattle.dgt_followed.specs.{Followed.{clock_count_after, clock_count_after_asking, count_after, count_after_asking, follower_of}, Heard.{HeardRuns, HeardStep, TimedHappening, is_setting, sending}}
use Rattle.dgt_followed.proofs.Acts.{asking_is_acts, fits, mode_done, prefix_of}

pub ask_happens : (before : FollowedView) (after : FollowerView) (now written : ℕ)
    (old new : List ℕ)
    → Asks (asking_of (follower_of before) now) now (follower_of before) after old new (Ok written)
    → HasRoom before.world.down (asking_bytes before.pace.mode (asking_of (follower_of before) now))
    → HeardStep (TimedHappening.Asks now) before
    (record {
      world = after_writing before.world after.host (take written new);
      pace = after.pace;
      since = count_after_asking (asking_of (follower_of before) now) before.since;
      clock_since = clock_count_after_asking before.pace.mode (asking_of (follower_of before) now)
          before.clock_since;
    })
ask_happens before after now written old new asked room =
    let done =
    asking_is_acts (follower_of before) after now written old new before.world asked refl room in
    ((done, asked.1, refl, refl), tt)

moves_some : (line : LineContents) (count : ℕ) → 0 < count → 0 < length line.bytes
    → moves_nothing count line ≡ false
moves_some line count asked some = search rules

pub hear_happens :
    (hosts : (follower : FollowerView) (now : ℕ) (bytes : List ℕ)
    → (follower_after follower now bytes).host ≡ host_after follower.host bytes)
    (counts : (follower : FollowerView) (now : ℕ) (bytes : List ℕ)
    → KeepsCount follower.pace (follower_after follower now bytes).pace)
    (before : FollowedView) (now count : ℕ) → 0 < count → 0 < length before.world.up.bytes
    → HeardStep (TimedHappening.Hears now count) before (record {
      world = record before.world {
        host = (follower_after (follower_of before) now (take count before.world.up.bytes)).host;
        up = without_first before.world.up count;
      };
      pace = (follower_after (follower_of before) now (take count before.world.up.bytes)).pace;
      since = before.since;
      clock_since = before.clock_since;
    })
hear_happens hosts counts before now count asked some =
    let bytes = take count before.world.up.bytes in
    let kept = counts (follower_of before) now bytes in
    let free = moves_some before.world.up count asked some in (
      (
        Outcome.Done,
        record { answers = rw free refl; leaves = rw (hosts (follower_of before) now bytes) refl },
        record { patience = kept.patience; left = kept.left },
        refl,
        refl,
      ),
      refl,
    )

pub set_happens : (before : FollowedView) (call : Call) → is_setting call ≡ true
    → HeardStep (TimedHappening.Sets call) before (record before {
      pace = (follower_after_call (follower_of before) call).pace;
    })
set_happens before call sets = search (rules, false≢true)

-- a command that is written whole is an act
one_happens : (before : FollowedView) (command : CommandContent)
    → awaits_too_many before.world.host (requested_kind command) ≡ false
    → EncodesCommand command (command_encoding command)
    → HasRoom before.world.down (command_encoding command)
    → HeardStep (TimedHappening.Acts (sends command)) before (record {
      world = after_writing before.world (host_awaiting before.world.host (requested_kind command))
          (command_encoding command);
      pace = before.pace;
      since = count_after (sends command) before.since;
      clock_since = clock_count_after (sends command) before.clock_since;
    })
one_happens before command few encodes room = search (rules, fits)

mode_happens : (mode : UpdateMode) (before : FollowedView)
    → HasRoom before.world.down (command_encoding (mode_command mode))
    → HeardStep (TimedHappening.Acts (sends (mode_command mode))) before (record {
      world = record before.world {
        down = with_bytes before.world.down (command_encoding (mode_command mode));
      };
      pace = before.pace;
      since = count_after (sends (mode_command mode)) before.since;
      clock_since = clock_count_after (sends (mode_command mode)) before.clock_since;
    })
mode_happens mode before room = search (rules, mode_done)

-- by these happenings the follower's host is this one and has written these bytes
abbrev Happen : List TimedHappening → FollowedView → HostView → List ℕ → Type 0
Happen happenings before host bytes =
    (ended : FollowedView) × HeardRuns happenings [] [] before ended
    × (ended.world ≡ after_writing before.world host bytes) × (ended.pace ≡ before.pace)

bytes_of_one : (command : CommandContent)
    → flat_map command_encoding (command ∷ []) ≡ command_encoding command
bytes_of_one command = append-nil (command_encoding command)

bytes_of_two : (command next : CommandContent)
    → flat_map command_encoding (command ∷ next ∷ [])
    ≡ command_encoding command ++ command_encoding next
bytes_of_two command next = search (rules, append-nil)

bare_happens : (command : CommandContent) (before : FollowedView)
    → awaits_too_many before.world.host (requested_kind command) ≡ false
    → EncodesCommand command (command_encoding command)
    → HasRoom before.world.down (flat_map command_encoding (command ∷ []))
    → Happen (TimedHappening.Acts (sends command) ∷ []) before
    (host_awaiting before.world.host (requested_kind command))
    (flat_map command_encoding (command ∷ []))
bare_happens command before few encodes room =
    let step = one_happens before command few encodes
    (subst (HasRoom before.world.down) (bytes_of_one command) room) in
    (_, (_, [], [], step, (refl, refl, refl), refl, refl), search rules, refl)

room_first : (line : LineContents) (first next : List ℕ) → HasRoom line (first ++ next)
    → HasRoom line first
room_first line first next room = omega (arith, length-append {A = ℕ})

room_next : (line : LineContents) (first next : List ℕ) → HasRoom line (first ++ next)
    → HasRoom (with_bytes line first) next
room_next line first next room = omega (arith, length-append {A = ℕ})

frame_happens : (mode : UpdateMode) (command : CommandContent) (before : FollowedView)
    → awaits_too_many before.world.host (requested_kind command) ≡ false
    → EncodesCommand command (command_encoding command)
    → HasRoom before.world.down (flat_map command_encoding (command ∷ mode_command mode ∷ []))
    → Happen
    (TimedHappening.Acts (sends command) ∷ TimedHappening.Acts (sends (mode_command mode)) ∷ [])
    before (host_awaiting before.world.host (requested_kind command))
    (flat_map command_encoding (command ∷ mode_command mode ∷ []))
frame_happens mode command before few encodes room =
    let first = command_encoding command in
    let next = command_encoding (mode_command mode) in
    let same = bytes_of_two command (mode_command mode) in
    let world : WorldView = before.world in
    let fits_both : HasRoom world.down (first ++ next) = subst (HasRoom world.down) same room in
    let step =
    one_happens before command few encodes (room_first world.down first next fits_both) in
    let last = mode_happens mode _ (room_next world.down first next fits_both) in (
      _,
      (_, [], [], step, (_, [], [], last, (refl, refl, refl), refl, refl), refl, refl),
      rw same (simp append_assoc),
      refl,
    )

sent_happen : (mode : UpdateMode) (command : CommandContent) (before : FollowedView)
    → awaits_too_many before.world.host (requested_kind command) ≡ false
    → EncodesCommand command (command_encoding command)
    → HasRoom before.world.down (sent_bytes mode command)
    → Happen (sending mode command) before
    (host_awaiting before.world.host (requested_kind command)) (sent_bytes mode command)
sent_happen mode (CommandContent.ClockMessage message) before few encodes room =
    frame_happens mode _ before few encodes room
sent_happen mode (CommandContent.Leds bytes) before few encodes room =
    frame_happens mode _ before few encodes room
sent_happen mode command before few encodes room = bare_happens command before few encodes room

-- the world after the bytes of a sending, which are at the beginning of the slice
world_sent : (world : WorldView) (sent : Request) (after : HostView) (written : ℕ)
    (old new : List ℕ) → Sends sent world.host after old new (Ok written)
    → after_writing world (host_awaiting world.host sent.kind) sent.bytes
    ≡ after_writing world after (take written new)
world_sent world sent after written old new sends = search (rules, prefix_of)

pub send_happens : (before : FollowedView) (command : CommandContent) (after : HostView)
    (written : ℕ) (old new : List ℕ) → Sends (record {
      kind = requested_kind command;
      bytes = sent_bytes before.pace.mode command;
    }) before.world.host after old new (Ok written)
    → EncodesCommand command (command_encoding command)
    → HasRoom before.world.down (sent_bytes before.pace.mode command)
    → Happen (sending before.pace.mode command) before after (take written new)
send_happens before command after written old new sent encodes room =
    let (ended, runs, world, pace) =
    sent_happen before.pace.mode command before sent.0 encodes room in
    (ended, runs, world ∙ world_sent before.world _ after written old new sent, pace)
