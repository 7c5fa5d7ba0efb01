-- A board and a follower that records only what it hears, on lines that may fail.
use Rattle.std.specs.Prelude.{◌≡◌, ◌≢◌, ℕ, List, [], ◌∷◌, ◌++◌, Bool, true, false, if◌then◌else◌, Option, None, Some, map, take, option_to_list, IsTrue}
use Rattle.std.specs.List.{AllByRecursion, flat_map}
use Rattle.dgt_values.specs.declared.pieces.Piece.{Piece}
use Rattle.dgt_message.specs.Content.{Content, IsMessage}
use Rattle.dgt_message.specs.Encoding.{encoding}
use Rattle.dgt_message.specs.Picture.{picture_after_all}
use Rattle.dgt_decode.specs.Grammar.{events, unfinished_message}
use Rattle.dgt_command.specs.Content.{CommandContent}
use Rattle.dgt_board.specs.Sending.{next_message}
use Rattle.dgt_host.specs.Confirmed.{IsRight, confirmed_after_all, messages}
use Rattle.dgt_follow.specs.Calls.{Call, bytes_heard, follower_after_call, follower_after_calls}
use Rattle.dgt_follow.specs.Follower.{follower_after}
use Rattle.dgt_follow.specs.Pace.{sent_commands}
use Rattle.dgt_follow.specs.declared.asking.UpdateMode.{UpdateMode}
use Rattle.dgt_link.specs.Act.{ActContent}
use Rattle.dgt_link.specs.Faults.{FaultyContent, sends}
use Rattle.dgt_link.specs.View.{LineContents, overflows}
use Rattle.dgt_followed.specs.Followed.{FollowedStep, FollowedView, Happening, follower_of}

-- ---- what happens, and when

pub data TimedHappening : Type 0 where
  -- at this time the follower is asked, and writes what is due
  Asks : (now : ℕ) → TimedHappening
  -- at this time it hears this many bytes of the up line, or all that are there
  Hears : (now count : ℕ) → TimedHappening
  -- this call sets or records something, and neither hears nor asks
  Sets : (call : Call) → TimedHappening
  -- any other act, by which its host may send a command and notices nothing
  Acts : (act : FaultyContent) → TimedHappening

abbrev pub happening_of : TimedHappening → Happening
happening_of (TimedHappening.Asks now) = Happening.Ask now
happening_of (TimedHappening.Hears now count) =
    Happening.Other (FaultyContent.Plain (ActContent.ToHost count))
happening_of (TimedHappening.Sets call) =
    Happening.Other (FaultyContent.Plain (ActContent.ToHost 0))  -- nothing is delivered
happening_of (TimedHappening.Acts act) = Happening.Other act

abbrev pub is_setting : Call → Bool
is_setting (Call.SetsMode mode) = true
is_setting (Call.SetsConfirm confirm) = true
is_setting (Call.SetsIdentify identify) = true
is_setting Call.AsksNow = true
is_setting Call.Disturbs = true
is_setting call = false

-- By these acts the host hears bytes, loses the line, starts over or gives up replies. A follower
-- hears and starts over by calls of its own.
abbrev pub is_noticed : FaultyContent → Bool
is_noticed (FaultyContent.Plain (ActContent.ToHost count)) = true
is_noticed (FaultyContent.Plain ActContent.Break) = true
is_noticed (FaultyContent.Plain ActContent.HostBreak) = true
is_noticed FaultyContent.Restart = true
is_noticed FaultyContent.GiveUp = true
is_noticed act = false

-- `follower_after` describes the effect of what it hears. It records no other act.
abbrev pub NotesOnly : TimedHappening → FollowedView → FollowedView → Type 0
NotesOnly (TimedHappening.Asks now) before after = Unit {0}
NotesOnly (TimedHappening.Hears now count) before after =
    follower_of after
    ≡ follower_after (follower_of before) now (take count before.world.up.bytes)
NotesOnly (TimedHappening.Sets call) before after =
    (is_setting call ≡ true)
    × (follower_of after ≡ follower_after_call (follower_of before) call)
NotesOnly (TimedHappening.Acts act) before after =
    (is_noticed act ≡ false) × (after.pace ≡ before.pace)

abbrev pub HeardStep : TimedHappening → FollowedView → FollowedView → Type 0
HeardStep happening before after =
    FollowedStep (happening_of happening) before after × NotesOnly happening before after

-- the acts by which a follower in this mode sends a command
abbrev pub sending : UpdateMode → CommandContent → List TimedHappening
sending mode command = map (λ each. TimedHappening.Acts (sends each)) (sent_commands mode command)

-- ---- what is sent and heard

-- the bytes that the follower hears by this
abbrev pub bytes_by : TimedHappening → FollowedView → List ℕ
bytes_by (TimedHappening.Hears now count) before = take count before.world.up.bytes
bytes_by happening before = []

-- the message that a board sends next, if the line has room for it
abbrev pub fitting : Option Content → LineContents → List Content
fitting None line = []
fitting (Some message) line = if overflows line (encoding message) then [] else message ∷ []

-- the message that the board sends by this, if there is one
abbrev pub sent_by : TimedHappening → FollowedView → List Content
sent_by (TimedHappening.Acts (FaultyContent.Plain ActContent.BoardSend)) before =
    fitting (next_message before.world.board.state) before.world.up
sent_by happening before = []

-- Happenings in order. By them the board sends these messages, and the follower hears these bytes.
abbrev pub HeardRuns : List TimedHappening → List Content → List ℕ → FollowedView → FollowedView
    → Type 0
HeardRuns [] said bytes before after = (said ≡ []) × (bytes ≡ []) × (after ≡ before)
HeardRuns (happening ∷ later) said bytes before after =
    (between : FollowedView) × (more : List Content) × (rest : List ℕ)
    × HeardStep happening before between × HeardRuns later more rest between after
    × (said ≡ sent_by happening before ++ more) × (bytes ≡ bytes_by happening before ++ rest)

-- the board keeps its power
abbrev pub KeepsPower : TimedHappening → Type 0
KeepsPower happening = happening ≢ TimedHappening.Acts FaultyContent.BoardLost

-- ---- facts about it

-- The happenings to a follower are calls of it, which hear the same bytes.
abbrev pub HappeningsAreCalls : Type 0
HappeningsAreCalls =
    (happenings : List TimedHappening) (said : List Content) (bytes : List ℕ)
    (before after : FollowedView) → HeardRuns happenings said bytes before after →
    (calls : List Call) × (bytes_heard calls ≡ bytes)
    × (follower_of after ≡ follower_after_calls (follower_of before) calls)

-- Whatever happens, the picture is that of the messages among the bytes, and it is confirmed only
-- if they confirm it. The unread bytes are those of an unfinished message, as always.
abbrev pub ConfirmedAsDelivered : Type 0
ConfirmedAsDelivered =
    (happenings : List TimedHappening) (said : List Content) (bytes : List ℕ)
    (before after : FollowedView) → let unread = before.world.host.unread in
    unfinished_message unread ≡ unread → HeardRuns happenings said bytes before after →
    let picture = before.world.host.picture in
    let heard = messages (events (unread ++ bytes)) in
    (after.world.host.picture ≡ picture_after_all picture heard)
    × (IsTrue after.pace.confirmed →
    IsTrue (confirmed_after_all before.pace.confirmed picture heard))

-- What the board has reported is the picture after the messages that it has sent, while it keeps
-- its power.
abbrev pub SentIsReported : Type 0
SentIsReported =
    (happenings : List TimedHappening) (said : List Content) (bytes : List ℕ)
    (before after : FollowedView) → AllByRecursion KeepsPower happenings →
    HeardRuns happenings said bytes before after →
    Some after.world.board.state.reported_squares
    ≡ picture_after_all (Some before.world.board.state.reported_squares) said

-- The bytes are those of messages, except for one stretch between them, which contains at most one
-- message and replaces at most one. At first the follower shows what the board has reported, or
-- knows no picture. Nothing is confirmed, and no byte is unread.
pub record IsOneStretch (reported : List Piece) (before : FollowedView) (said : List Content)
    (bytes : List ℕ) : Type 0 where
  pub first : List Content
  pub last : List Content
  pub stretch : List ℕ
  pub meant : Option Content
  pub heard : Option Content
  pub first_are : AllByRecursion IsMessage first
  pub last_are : AllByRecursion IsMessage last
  pub said_is : said ≡ first ++ option_to_list meant ++ last
  pub bytes_are : bytes ≡ flat_map encoding first ++ stretch ++ flat_map encoding last
  pub says : messages (events stretch) ≡ option_to_list heard
  pub whole : before.world.host.unread ≡ []
  pub unconfirmed : before.pace.confirmed ≡ false
  pub right : IsRight reported before.world.host.picture

-- **After one stretch of faulty bytes, a picture that both sides confirm is right, in worlds.** The
-- delivered bytes are those of these messages, except for one stretch. If the follower is then
-- confirmed, and the messages repeat the picture since they last changed it, its picture is what
-- they report.
abbrev pub OneStretchIsSeenInWorlds : Type 0
OneStretchIsSeenInWorlds =
    (happenings : List TimedHappening) (sent said : List Content) (bytes : List ℕ)
    (before after : FollowedView) (reported : List Piece) →
    IsOneStretch reported before said bytes → HeardRuns happenings sent bytes before after →
    IsTrue (confirmed_after_all false (Some reported) said) → IsTrue after.pace.confirmed →
    after.world.host.picture ≡ picture_after_all (Some reported) said

-- If these are the messages that the board sends meanwhile, and it keeps its power, the picture is
-- what the board has reported.
abbrev pub ConfirmedIsReportedInWorlds : Type 0
ConfirmedIsReportedInWorlds =
    (happenings : List TimedHappening) (said : List Content) (bytes : List ℕ)
    (before after : FollowedView) → let reported = before.world.board.state.reported_squares in
    IsOneStretch reported before said bytes → AllByRecursion KeepsPower happenings →
    HeardRuns happenings said bytes before after →
    IsTrue (confirmed_after_all false (Some reported) said) → IsTrue after.pace.confirmed →
    after.world.host.picture ≡ Some after.world.board.state.reported_squares
