-- When a follower sends a request, and which: what it counts and what it records of the messages.
use Rattle.std.specs.Prelude.{◌≡◌, ℕ, ◌+◌, ◌-◌, ◌*◌, ◌^◌, max, min, nat_le, nat_lt, List, [], ◌∷◌, ◌++◌, Option, Some, None, is_some, Bool, false, true, not, ◌==◌, ◌&&◌, ◌||◌, if◌then◌else◌, flat_map}
use Rattle.dgt_values.specs.declared.kinds.Kind.{Kind}
use Rattle.dgt_message.specs.declared.known.KnownCode.{KnownCode}
use Rattle.dgt_message.specs.Clock.{Time, Times}
use Rattle.dgt_message.specs.Code.{known_number}
use Rattle.dgt_message.specs.Content.{Content, answered_kind}
use Rattle.dgt_command.specs.Content.{CommandContent}
use Rattle.dgt_command.specs.Encoding.{command_encoding}
use Rattle.dgt_values.specs.declared.pieces.Piece.{Piece}
use Rattle.dgt_message.specs.declared.viewing.BodyFault.TheVariants.{BadReading}
use Rattle.dgt_decode.specs.Grammar.{Event, Message, Refused}
use Rattle.dgt_host.specs.Confirmed.{changes, changes_by, confirmed_after}
use Rattle.dgt_host.specs.Host.{is_same_kind, restart_bytes}
use Rattle.dgt_follow.specs.declared.asking.Asking.{Asking}
use Rattle.dgt_follow.specs.declared.pace.TheConstants.{LEAST_PERIOD, OVERDUE, RETRY, SETTLED, TRIES, UNFINISHED}
use Rattle.dgt_follow.specs.declared.asking.UpdateMode.{UpdateMode}

pub record PaceView : Type 0 where
  -- its settings
  pub period : ℕ  -- milliseconds from one request to the next, without a disturbance
  pub patience : ℕ  -- how many heartbeats may follow one another
  pub mode : UpdateMode  -- which changes the board is asked to report
  pub confirm : Bool  -- whether a picture that isn't confirmed is requested again
  pub identify : Bool  -- whether the board's serial number is requested while it is unknown
  -- what it requested
  pub left : ℕ  -- how many more heartbeats the patience allows
  pub tries : ℕ  -- how many more times the serial number may be requested
  pub asked : Option ℕ  -- when it last requested a dump
  pub requested : Bool  -- whether it has requested the serial number since
  pub wanted : Bool  -- whether a request is due as soon as no answer is owed
  -- what it recorded since it last requested a dump
  pub answered : Bool  -- whether an awaited dump was heard
  pub disturbed : Bool  -- whether anything was heard that a sound line and board don't send
  pub pardons : Bool  -- whether the last new start gave up replies that may yet arrive
  pub timeout : ℕ  -- milliseconds from a request without an answer to the next one
  -- what it recorded in all
  pub settling : Bool  -- whether no awaited dump was heard since the last new start
  pub heard : Option ℕ  -- the time of the last whole message
  pub unfinished : Option ℕ  -- the time of the last byte of an unfinished message
  pub doubtful : Bool  -- a disturbance or an overdue answer since the last awaited dump
  -- An awaited dump repeated the picture. Since then there was no change of the picture, no unasked
  -- message, no disturbance and no overdue answer.
  pub confirmed : Bool
  pub changed : Option ℕ  -- when a message last changed the picture
  pub serial : Option (List ℕ)  -- the serial number that was last reported
  pub unreadable : Bool  -- whether the last report of the clock contained no reading

-- a pace without requests and records, whose period is at least a second
abbrev pub new_pace : ℕ → ℕ → UpdateMode → Bool → Bool → PaceView
new_pace period patience mode confirm identify =
    record {
      period = max LEAST_PERIOD period;
      patience = patience;
      mode = mode;
      confirm = confirm;
      identify = identify;
      left = patience;
      tries = TRIES;
      asked = None;
      requested = false;
      wanted = false;
      answered = false;
      disturbed = false;
      pardons = false;
      timeout = OVERDUE;
      settling = false;
      heard = None;
      unfinished = None;
      doubtful = false;
      confirmed = false;
      changed = None;
      serial = None;
      unreadable = false;
    }

-- a pace that keeps only its settings
abbrev pub forgetting : PaceView → PaceView
forgetting pace = new_pace pace.period pace.patience pace.mode pace.confirm pace.identify

-- ---- records

-- a message of this kind is not the first awaited
abbrev pub is_unasked : List Kind → Option Kind → Bool
is_unasked awaited None = false
is_unasked [] (Some kind) = true
is_unasked (first ∷ more) (Some kind) = not (is_same_kind first kind)

-- a dump that differs from the known picture
abbrev pub contradicts : Option (List Piece) → Content → Bool
contradicts picture (Content.dump pieces) = changes picture (Content.dump pieces)
contradicts picture said = false

-- A cut or refused message, a bad length, a stray byte, an unasked message, or a dump that differs
-- from the known picture. Two things are not disturbances: a clock without digits, as while it is
-- being set, and an unasked message while such messages are pardoned.
abbrev pub disturbs : Bool → List Kind → Option (List Piece) → Event → Bool
disturbs pardons awaited picture (Message said) =
    (is_unasked awaited (answered_kind said) && not pardons) || contradicts picture said
disturbs pardons awaited picture (Refused code (BadReading at)) = false
disturbs pardons awaited picture _ = true

-- The picture is confirmed after an event, given whether it was before. The first awaited dump
-- after a new start, while the pace is settling, doesn't confirm it: that may be a late answer to
-- an earlier request.
abbrev pub confirmed_by : Bool → Bool → List Kind → Option (List Piece) → Event → Bool
confirmed_by confirmed settling awaited picture (Message said) =
    not (is_unasked awaited (answered_kind said))
    && (confirmed_after confirmed picture said && (confirmed || not settling))
confirmed_by confirmed settling awaited picture (Refused code (BadReading at)) = confirmed
confirmed_by confirmed settling awaited picture _ = false

abbrev pub changed_at : Option ℕ → ℕ → Option (List Piece) → Event → Option ℕ
changed_at before now picture event = if changes_by picture (Some event) then Some now else before

-- an awaited dump
abbrev pub is_answer : List Kind → Event → Bool
is_answer awaited (Message (Content.dump pieces)) = not (is_unasked awaited (Some Kind.Dump))
is_answer awaited _ = false

abbrev pub heard_at : Option ℕ → ℕ → Event → Option ℕ
heard_at before now (Message said) = Some now
heard_at before now _ = before

abbrev pub serial_by : Option (List ℕ) → Event → Option (List ℕ)
serial_by before (Message (Content.carried code body)) =
    if code == known_number KnownCode.Serial then Some body else before
serial_by before _ = before

-- A clock without a reading so far sends only zeros.
abbrev pub is_zero : Time → Bool
is_zero t = (t.hours == 0 && t.minutes == 0) && (t.seconds == 0 && t.flags == 0)

abbrev pub is_blank : Times → Bool
is_blank t = (is_zero t.first && is_zero t.second) && t.status == 0

-- the last report of the clock was refused for a digit, or contains no reading
abbrev pub unreadable_by : Bool → Event → Bool
unreadable_by before (Refused code (BadReading at)) = true
unreadable_by before (Message (Content.times readings)) = is_blank readings
unreadable_by before (Message (Content.no_clock absence)) = false
unreadable_by before _ = before

-- the time of the last byte of an unfinished message, after bytes were heard at this time that
-- leave these unread
abbrev pub unfinished_by : Option ℕ → ℕ → List ℕ → List ℕ → Option ℕ
unfinished_by before now [] unread = before
unfinished_by before now (byte ∷ more) [] = None
unfinished_by before now (byte ∷ more) (first ∷ rest) = Some now

-- the pace after an event that is heard at this time, while these kinds are awaited and this
-- picture is known
abbrev pub pace_after_event : PaceView → ℕ → List Kind → Option (List Piece) → Event → PaceView
pace_after_event pace now awaited picture event =
    record pace {
      answered = is_answer awaited event || pace.answered;
      disturbed = disturbs pace.pardons awaited picture event || pace.disturbed;
      timeout = OVERDUE;
      settling = pace.settling && not (is_answer awaited event);
      heard = heard_at pace.heard now event;
      doubtful =
          disturbs pace.pardons awaited picture event
          || (pace.doubtful && not (is_answer awaited event));
      confirmed = confirmed_by pace.confirmed pace.settling awaited picture event;
      changed = changed_at pace.changed now picture event;
      serial = serial_by pace.serial event;
      unreadable = unreadable_by pace.unreadable event;
    }

-- the pace after a report that bytes were lost or altered
abbrev pub pace_disturbed : PaceView → PaceView
pace_disturbed pace = record pace { disturbed = true; doubtful = true; confirmed = false }

-- the counts and the settings of both are the same, whatever was recorded
pub record KeepsCount (before after : PaceView) : Type 0 where
  pub period : after.period ≡ before.period
  pub patience : after.patience ≡ before.patience
  pub mode : after.mode ≡ before.mode
  pub confirm : after.confirm ≡ before.confirm
  pub identify : after.identify ≡ before.identify
  pub left : after.left ≡ before.left
  pub tries : after.tries ≡ before.tries
  pub asked : after.asked ≡ before.asked
  pub requested : after.requested ≡ before.requested
  pub wanted : after.wanted ≡ before.wanted

-- ---- when a request is due

-- the last request has no answer yet
abbrev pub is_unanswered : PaceView → Bool
is_unanswered pace = is_some pace.asked && not pace.answered

-- the last request was answered, without a disturbance since
abbrev pub is_calm : PaceView → Bool
is_calm pace = (is_some pace.asked && pace.answered) && not pace.disturbed

abbrev pub time_after : Option ℕ → ℕ → ℕ
time_after None duration = 0
time_after (Some time) duration = time + duration

-- the answer to the last request is a second late
abbrev pub is_overdue : PaceView → ℕ → Bool
is_overdue pace now = is_unanswered pace && nat_le (time_after pace.asked OVERDUE) now

-- a message is unfinished for a second
abbrev pub is_stuck : PaceView → ℕ → Bool
is_stuck pace now =
    is_some pace.unfinished && nat_le (time_after pace.unfinished UNFINISHED) now

-- The pace at this time. An answer that is overdue by then is a doubt. A message that is unfinished
-- for a second is a disturbance.
abbrev pub pace_at : PaceView → ℕ → PaceView
pace_at pace now =
    record pace {
      disturbed = pace.disturbed || is_stuck pace now;
      unfinished = if is_stuck pace now then None else pace.unfinished;
      doubtful = (pace.doubtful || is_overdue pace now) || is_stuck pace now;
      confirmed = (pace.confirmed && not (is_overdue pace now)) && not (is_stuck pace now);
    }

-- The time between two requests: a period, and at most half a second after a disturbance. An
-- unanswered request is repeated after its timeout.
abbrev pub wait : PaceView → ℕ
wait pace =
    if pace.disturbed then min pace.period RETRY
    else if is_unanswered pace then min pace.period pace.timeout
    else pace.period

-- the later of two times, as far as they are known
abbrev pub later : Option ℕ → Option ℕ → Option ℕ
later None second = second
later first None = first
later (Some first) (Some second) = Some (max first second)

-- A picture that isn't confirmed is to be requested again, unless an answer is owed.
abbrev pub wants_confirming : PaceView → Bool
wants_confirming pace = (pace.confirm && not pace.confirmed) && not (is_unanswered pace)

-- The serial number is to be requested: it is unknown, and was not requested since the last request
-- of a dump.
abbrev pub wants_serial : PaceView → Bool
wants_serial pace =
    (pace.identify && not (is_some pace.serial))
    && ((nat_lt 0 pace.tries && not pace.requested) && is_calm pace)

-- a request is due as soon as possible, and no answer is owed
abbrev pub asks_at_once : PaceView → Bool
asks_at_once pace = wants_serial pace || (pace.wanted && not (is_unanswered pace))

-- a wait after the last request
abbrev pub usual_time : PaceView → ℕ
usual_time pace = time_after pace.asked (wait pace)

-- a second after the picture last changed, and after the last request
abbrev pub settled_time : PaceView → ℕ
settled_time pace = time_after (later pace.asked pace.changed) SETTLED

-- The first time at which a request is due; without a request so far that is any time. To confirm a
-- picture, it is requested a second after its last change, and a second after the last request.
abbrev pub due_time : PaceView → ℕ
due_time pace =
    if asks_at_once pace then 0
    else if wants_confirming pace then min (usual_time pace) (settled_time pace)
    else usual_time pace

-- a time before the last request
abbrev pub is_before : ℕ → Option ℕ → Bool
is_before now None = false
is_before now (Some asked) = nat_lt now asked

abbrev pub is_due : PaceView → ℕ → Bool
is_due pace now = nat_le (due_time pace) now || is_before now pace.asked

-- this time, if a `u64` can hold it
abbrev pub counted : ℕ → Option ℕ
counted time = if nat_lt time (2 ^ 64) then Some time else None

-- the first time at which a request is due, or an answer becomes overdue without a doubt before
abbrev pub doubt_time : PaceView → ℕ
doubt_time pace =
    if is_unanswered pace && not pace.doubtful
    then min (due_time pace) (time_after pace.asked OVERDUE)
    else due_time pace

-- the same, or the time at which a message is unfinished for a second
abbrev pub next_due : PaceView → Option ℕ
next_due pace =
    if is_some pace.unfinished
    then counted (min (doubt_time pace) (time_after pace.unfinished UNFINISHED))
    else counted (doubt_time pace)

-- ---- which request is due

-- it is calm, the host can await one more reply, and patience is left
abbrev pub trusts : PaceView → Bool → Bool
trusts pace full = is_calm pace && (not full && nat_lt 0 pace.left)

-- the request at this time, by whether the host awaits as many replies as it can
abbrev pub asking : PaceView → Bool → ℕ → Asking
asking pace full now =
    if not (is_due pace now) then Asking.Nothing
    else if wants_serial pace && not full then Asking.Identify
    else if trusts pace full then Asking.Heartbeat
    else Asking.Anew

-- the command for this mode
abbrev pub mode_command : UpdateMode → CommandContent
mode_command UpdateMode.UpdateBoard = CommandContent.UpdateBoard
mode_command UpdateMode.Update = CommandContent.Update
mode_command UpdateMode.UpdateNice = CommandContent.UpdateNice

-- What is sent for a command of the caller's. The board may read a frame that lost a byte as other
-- commands, of which 40, Reset, ends its reports. So the mode's command follows a frame.
abbrev pub sent_commands : UpdateMode → CommandContent → List CommandContent
sent_commands mode (CommandContent.ClockMessage message) =
    CommandContent.ClockMessage message ∷ mode_command mode ∷ []
sent_commands mode (CommandContent.Leds bytes) = CommandContent.Leds bytes ∷ mode_command mode ∷ []
sent_commands mode said = said ∷ []

abbrev pub sent_bytes : UpdateMode → CommandContent → List ℕ
sent_bytes mode said = flat_map command_encoding (sent_commands mode said)

-- the request of a reading of the clock, in the modes that report it
abbrev pub clock_request : UpdateMode → List ℕ
clock_request UpdateMode.UpdateBoard = []
clock_request UpdateMode.Update = command_encoding CommandContent.Clock
clock_request UpdateMode.UpdateNice = command_encoding CommandContent.Clock

-- The bytes of a request. A heartbeat is the mode's command and a dump request, and a new start is
-- a host's restart and the mode's command. If the mode reports the clock, a reading of it is also
-- requested. The serial number is requested separately.
abbrev pub asking_bytes : UpdateMode → Asking → List ℕ
asking_bytes mode Asking.Nothing = []
asking_bytes mode Asking.Identify = command_encoding CommandContent.Serial
asking_bytes mode Asking.Heartbeat =
    command_encoding (mode_command mode) ++ command_encoding CommandContent.Dump
    ++ clock_request mode
asking_bytes mode Asking.Anew =
    restart_bytes ++ command_encoding (mode_command mode) ++ clock_request mode

-- The timeout of the next request: a second. If the line is silent it is twice the last one, at
-- most a period: nothing answered the last request, and nothing disturbed since.
abbrev pub next_timeout : PaceView → ℕ
next_timeout pace =
    if is_unanswered pace && not pace.disturbed then min (2 * pace.timeout) pace.period
    else OVERDUE

-- the pace that has requested a dump at this time: a dump that is owed then is a doubt
abbrev pub pace_asked : PaceView → ℕ → PaceView
pace_asked pace now =
    record pace {
      asked = Some now;
      requested = false;
      wanted = false;
      answered = false;
      disturbed = false;
      pardons = false;
      timeout = next_timeout pace;
      doubtful = pace.doubtful || is_unanswered pace;
      confirmed = pace.confirmed && not (is_unanswered pace);
    }

-- The pace after a request at that time. A new start gives up the owed replies. If the pace was
-- calm, they are the caller's own, and may yet arrive.
abbrev pub pace_after_asking : Asking → PaceView → ℕ → PaceView
pace_after_asking Asking.Nothing pace now = pace
pace_after_asking Asking.Identify pace now =
    record pace { tries = pace.tries - 1; requested = true }
pace_after_asking Asking.Heartbeat pace now = record (pace_asked pace now) { left = pace.left - 1 }
pace_after_asking Asking.Anew pace now =
    record (pace_asked pace now) {
      left = pace.patience;
      pardons = is_calm pace;
      settling = true;
    }
