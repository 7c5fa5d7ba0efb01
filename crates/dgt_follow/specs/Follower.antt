-- How contracts see a follower, how heard bytes change it, and what it requests.
use Rattle.std.specs.Prelude.{◌≡◌, ◌≢◌, ◌⊎◌, ◌≤◌, ◌<◌, ◌*◌, Option, Bool, if◌then◌else◌, max, not, ◌&&◌, ◌||◌, is_some, IsSome, IsSomeAnd, IsNone, IsTrue, IsFalse, ℕ, List, [], ◌∷◌, ◌++◌, None, Some, false, Result, Ok, Err}
use Rattle.dgt_values.specs.Bytes.{WritesPrefix}
use Rattle.dgt_values.specs.declared.kinds.Kind.{Kind}
use Rattle.dgt_values.specs.declared.refusals.NoRoom.{NoRoom}
use Rattle.dgt_decode.specs.Grammar.{Event, Placed, events, unfinished_message}
use Rattle.dgt_values.specs.declared.pieces.Piece.{Piece}
use Rattle.dgt_message.specs.Clock.{ClockState}
use Rattle.dgt_message.specs.Picture.{picture_after_all}
use Rattle.dgt_host.specs.Confirmed.{confirmed_after_all, messages}
use Rattle.dgt_host.specs.Host.{HostView, awaits_too_many, host_after_event, host_awaiting, new_host, without_awaited}
use Rattle.dgt_follow.specs.declared.asking.Asking.{Asking}
use Rattle.dgt_follow.specs.declared.asking.UpdateMode.{UpdateMode}
use Rattle.dgt_follow.specs.declared.pace.TheConstants.{OVERDUE, RETRY, SETTLED}
use Rattle.dgt_follow.specs.Pace.{PaceView, asking, asking_bytes, asks_at_once, due_time, is_before, is_overdue, is_stuck, is_unanswered, new_pace, pace_after_asking, pace_after_event, pace_at, pace_disturbed, time_after, unfinished_by}

pub record FollowerView : Type 0 where
  pub host : HostView
  pub pace : PaceView

abbrev pub following : HostView → PaceView → FollowerView
following host pace = record { host = host; pace = pace }

abbrev pub new_follower : ℕ → ℕ → UpdateMode → FollowerView
new_follower period patience mode =
    following new_host (new_pace period patience mode false false)

-- ---- hearing

abbrev pub follower_after_event : FollowerView → ℕ → Event → FollowerView
follower_after_event follower now event =
    following (host_after_event follower.host event)
    (pace_after_event follower.pace now follower.host.awaited follower.host.picture event)

abbrev pub follower_after_events : FollowerView → ℕ → List Placed → FollowerView
follower_after_events follower now [] = follower
follower_after_events follower now (x ∷ more) =
    follower_after_events (follower_after_event follower now x.event) now more

abbrev pub with_unread : FollowerView → List ℕ → FollowerView
with_unread follower unread =
    following (record follower.host { unread = unread }) follower.pace

abbrev pub with_unfinished : FollowerView → Option ℕ → FollowerView
with_unfinished follower unfinished =
    following follower.host (record follower.pace { unfinished = unfinished })

-- the follower after the events of these bytes, and with the bytes of an unfinished message
abbrev pub follower_hearing : FollowerView → ℕ → List ℕ → FollowerView
follower_hearing follower now bytes =
    with_unread (follower_after_events follower now (events (follower.host.unread ++ bytes)))
    (unfinished_message (follower.host.unread ++ bytes))

-- the follower after it has heard these bytes at this time
abbrev pub follower_after : FollowerView → ℕ → List ℕ → FollowerView
follower_after follower now bytes =
    with_unfinished (follower_hearing follower now bytes)
    (unfinished_by follower.pace.unfinished now bytes
    (unfinished_message (follower.host.unread ++ bytes)))

-- the clock as last reported, if the report was readable
abbrev pub clock_known : FollowerView → Option ClockState
clock_known follower = if follower.pace.unreadable then None else follower.host.clock

-- hearing bytes at one time in two chunks is the same as hearing them in one
abbrev pub FollowedInChunks : Type 0
FollowedInChunks =
    (follower : FollowerView) (now : ℕ) (bytes more : List ℕ) →
    follower_after (follower_after follower now bytes) now more
    ≡ follower_after follower now (bytes ++ more)

-- The picture is that of the messages that were heard, and it is confirmed only if they confirm it.
abbrev pub ConfirmedAsHeard : Type 0
ConfirmedAsHeard =
    (follower : FollowerView) (now : ℕ) (bytes : List ℕ) →
    let said = messages (events (follower.host.unread ++ bytes)) in
    let after = follower_after follower now bytes in
    (after.host.picture ≡ picture_after_all follower.host.picture said)
    × (IsTrue after.pace.confirmed →
    IsTrue (confirmed_after_all follower.pace.confirmed follower.host.picture said))

-- no request confirms anything
abbrev pub AskingsConfirmNothing : Type 0
AskingsConfirmNothing =
    (what : Asking) (pace : PaceView) (now : ℕ) →
    IsTrue (pace_after_asking what (pace_at pace now) now).confirmed → IsTrue pace.confirmed

-- An answer a second late and a message unfinished for a second are a doubt after the next call,
-- whatever that requests, and end the confirmation.
abbrev pub OverdueIsDoubt : Type 0
OverdueIsDoubt =
    (what : Asking) (pace : PaceView) (now : ℕ) →
    IsTrue (is_overdue pace now || is_stuck pace now) →
    let after = pace_after_asking what (pace_at pace now) now in
    IsTrue after.doubtful × IsFalse after.confirmed

-- If a request has no answer, the follower starts over after its timeout, when the answer is
-- overdue.
abbrev pub OverdueIsAskedAnew : Type 0
OverdueIsAskedAnew =
    (pace : PaceView) (full : Bool) (now : ℕ) → IsTrue (is_unanswered pace) →
    time_after pace.asked (max OVERDUE pace.timeout) ≤ now →
    asking (pace_at pace now) full now ≡ Asking.Anew

-- After a disturbance a follower starts over half a second after its last request, whatever the
-- period is. So does one with a message that is unfinished for a second.
abbrev pub DisturbedIsAskedAnew : Type 0
DisturbedIsAskedAnew =
    (pace : PaceView) (full : Bool) (now : ℕ) → IsTrue (pace.disturbed || is_stuck pace now) →
    time_after pace.asked RETRY ≤ now → asking (pace_at pace now) full now ≡ Asking.Anew

-- A doubt has a cause since the last request: a disturbance, or no answer so far. A timeout is at
-- least a second, and at most a period.
abbrev pub IsTimed : PaceView → Type 0
IsTimed pace =
    IsTrue (not pace.doubtful || (pace.disturbed || is_unanswered pace))
    × (OVERDUE ≤ pace.timeout) × (pace.timeout ≤ pace.period)

abbrev pub TimedStaysTimed : Type 0
TimedStaysTimed =
    ((period patience : ℕ) (mode : UpdateMode) (confirm identify : Bool) →
    IsTimed (new_pace period patience mode confirm identify))
    × ((pace : PaceView) (now : ℕ) → IsTimed pace →
    ((awaited : List Kind) (picture : Option (List Piece)) (event : Event) →
    IsTimed (pace_after_event pace now awaited picture event))
    × ((what : Asking) → IsTimed (pace_after_asking what (pace_at pace now) now))
    × IsTimed (pace_disturbed pace))

-- plain words are enough for that
abbrev pub TimedIsEnough : Type 0
TimedIsEnough =
    (pace : PaceView) → (IsTrue pace.doubtful → IsTrue pace.disturbed ⊎ IsTrue (is_unanswered pace))
    → OVERDUE ≤ pace.timeout → pace.timeout ≤ pace.period → IsTimed pace

-- On a silent line a request is given twice as long as the one before it, and at most a period. A
-- line is silent if nothing answered the request before, and nothing disturbed it.
abbrev pub SilenceDoubles : Type 0
SilenceDoubles =
    (what : Asking) (pace : PaceView) (now : ℕ) → (what ≡ Asking.Heartbeat) ⊎ (what ≡ Asking.Anew) →
    IsTrue (is_unanswered pace) → IsFalse pace.disturbed →
    let timeout = (pace_after_asking what pace now).timeout in
    (2 * pace.timeout ≤ pace.period → timeout ≡ 2 * pace.timeout)
    × (pace.period ≤ 2 * pace.timeout → timeout ≡ pace.period)

-- In doubt a request is due half a second after the last one if there was a disturbance since, and
-- after the timeout otherwise.
abbrev pub DoubtIsAskedAgain : Type 0
DoubtIsAskedAgain =
    (pace : PaceView) → IsTimed pace → IsTrue pace.doubtful →
    due_time pace ≤ time_after pace.asked (if pace.disturbed then RETRY else pace.timeout)

-- Two requests are at least half a second apart, in which the line carries the longest request and
-- its replies. A request that is due at once waits only for the last answer. Or the time is before
-- the last request.
abbrev pub RequestsAreApart : Type 0
RequestsAreApart =
    (pace : PaceView) (full : Bool) (now : ℕ) → IsTimed pace → IsFalse (asks_at_once pace) →
    IsFalse (is_before now pace.asked) → asking pace full now ≢ Asking.Nothing →
    time_after pace.asked RETRY ≤ now

-- A confirmed picture is not in doubt.
abbrev pub is_sure : PaceView → Bool
is_sure pace = not (pace.confirmed && pace.doubtful)

abbrev pub SureStaysSure : Type 0
SureStaysSure =
    ((period patience : ℕ) (mode : UpdateMode) (confirm identify : Bool) →
    IsTrue (is_sure (new_pace period patience mode confirm identify)))
    × ((pace : PaceView) (now : ℕ) → IsTrue (is_sure pace) →
    ((awaited : List Kind) (picture : Option (List Piece)) (event : Event) →
    IsTrue (is_sure (pace_after_event pace now awaited picture event)))
    × ((what : Asking) → IsTrue (is_sure (pace_after_asking what (pace_at pace now) now)))
    × IsTrue (is_sure (pace_disturbed pace)))

-- ---- requests

-- the request at this time
abbrev pub asking_of : FollowerView → ℕ → Asking
asking_of follower now =
    asking (pace_at follower.pace now) (awaits_too_many follower.host (Some Kind.Dump)) now

-- Why a request is due at this time. A period has passed since the last one, or there was none.
-- After a disturbance half a second is enough, and without an answer the timeout. Other reasons are
-- a call of `ask_now`, a picture that is to be confirmed and didn't change for a second, and an
-- unknown serial number. The last one is a time before the last request.
abbrev pub HasReason : PaceView → ℕ → Type 0
HasReason pace now =
    let owed = is_some pace.asked && not pace.answered in
    (time_after pace.asked pace.period ≤ now)
    ⊎ (IsTrue pace.disturbed × (time_after pace.asked RETRY ≤ now))
    ⊎ (IsTrue owed × IsFalse pace.disturbed × (time_after pace.asked pace.timeout ≤ now))
    ⊎ (IsFalse owed × IsTrue pace.wanted)
    ⊎ (IsFalse owed × IsTrue (pace.confirm && not pace.confirmed)
    × (time_after pace.asked SETTLED ≤ now) × (time_after pace.changed SETTLED ≤ now))
    ⊎ (IsFalse (owed || pace.disturbed) × IsSome pace.asked × IsNone pace.serial
    × IsTrue (pace.identify && not pace.requested) × (0 < pace.tries))
    ⊎ IsSomeAnd pace.asked (λ asked. now < asked)

-- The host after a request: it also awaits a dump, after a new start only that, or a serial number.
-- The picture, the clock and the unread bytes stay as they are.
abbrev pub host_after_asking : Asking → HostView → HostView
host_after_asking Asking.Nothing host = host
host_after_asking Asking.Identify host = host_awaiting host (Some Kind.Serial)
host_after_asking Asking.Heartbeat host = host_awaiting host (Some Kind.Dump)
host_after_asking Asking.Anew host = host_awaiting (without_awaited host) (Some Kind.Dump)

-- A host's request is written at the beginning of the slice, and its other bytes are unchanged. Or
-- the slice is too short for it, and nothing changes.
abbrev pub HostAsks : Asking → UpdateMode → HostView → HostView → List ℕ → List ℕ
    → Result ℕ NoRoom → Type 0
HostAsks what mode before after old new (Ok written) =
    WritesPrefix (asking_bytes mode what) old new (Ok written)
    × (after ≡ host_after_asking what before)
HostAsks what mode before after old new (Err fault) =
    WritesPrefix (asking_bytes mode what) old new (Err fault) × (after ≡ before)

-- The same for a follower.
abbrev pub Asks : Asking → ℕ → FollowerView → FollowerView → List ℕ → List ℕ → Result ℕ NoRoom
    → Type 0
Asks what now before after old new (Ok written) =
    HostAsks what before.pace.mode before.host after.host old new (Ok written)
    × (after.pace ≡ pace_after_asking what (pace_at before.pace now) now)
Asks what now before after old new (Err fault) =
    HostAsks what before.pace.mode before.host after.host old new (Err fault)
    × (after.pace ≡ before.pace)
