-- The reports of C calls are unique: two reports of one chunk or one struct are the same. Also the
-- effect of a refusal.
use Rattle.std.specs.Prelude.{◌≡◌, ◌<◌, ◌≤◌, ℕ, List, [], ◌∷◌, ◌++◌, All, length, replicate, take, Option, Some, None, Bool, true}
use Rattle.dgt_values.specs.Bytes.{AreSevenBit}
use Rattle.dgt_values.specs.declared.kinds.Kind.{Kind}
use Rattle.dgt_message.specs.Clock.{Absence, AreTimes, ClockState, IsAbsence, Times}
use Rattle.dgt_message.specs.Content.{Content, IsMessage}
use Rattle.dgt_message.specs.Encoding.{encoding}
use Rattle.dgt_decode.specs.Grammar.{Event, Message, Placed, Refused}
use Rattle.dgt_command.specs.Content.{ClockContent, CommandContent, EventContent}
use Rattle.dgt_command.specs.Display.{HasNoSegments, Shows}
use Rattle.dgt_board.specs.View.{BoardView}
use Rattle.dgt_host.specs.Host.{HostView}
use Rattle.dgt_lines.specs.Lines.{event_text}
use Rattle.dgt_c.specs.Boards.{Takes, TakesBytes}
use Rattle.dgt_c.specs.Chunks.{GoesOn, Reports, ReportsEach, UsesUpTo, bodies}
use Rattle.dgt_c.specs.ClockSending.{SendsClock, SendsDisplay}
use Rattle.dgt_c.specs.Clocks.{SaysClock}
use Rattle.dgt_c.specs.Commands.{CommandReporting, ReportsCommand}
use Rattle.dgt_c.specs.Encoding.{EncodesBytes, EncodesMessage, ReadsMessage, SaysMessage, view_reported}
use Rattle.dgt_c.specs.Hearing.{Feeds, HearsReported, Reporting, ReportsEvent}
use Rattle.dgt_c.specs.Reading.{FeedsWords}
use Rattle.dgt_c.specs.Reported.{body_said, reported_at}
use Rattle.dgt_c.specs.Sent.{RefusesCommand}
use Rattle.dgt_c.specs.Starting.{Starts}
use Rattle.dgt_c.specs.Texts.{ReadsEvent, SaysEvent, WritesText}
use Rattle.dgt_c.specs.declared.header.DgtBody.{DgtBody}
use Rattle.dgt_c.specs.declared.header.DgtClock.{DgtClock}
use Rattle.dgt_c.specs.declared.header.DgtEncoded.{DgtEncoded}
use Rattle.dgt_c.specs.declared.header.DgtEvent.{DgtEvent}
use Rattle.dgt_c.specs.declared.header.DgtIdentity.{DgtIdentity}
use Rattle.dgt_c.specs.declared.header.DgtSent.{DgtSent}
use Rattle.dgt_c.specs.declared.header.DgtTaken.{DgtTaken}

-- ---- events

-- if two slices were equal before, the two reports of them are equal
pub record AreSameReports (first second : Reporting) : Type 0 where
  pub event : first.event ≡ second.event
  pub new : first.new ≡ second.new

abbrev pub OneFeed : Type 0
OneFeed =
    (held chunk : List ℕ) (used other : ℕ) (first second : Reporting) → first.old ≡ second.old
    → Feeds held chunk used first → Feeds held chunk other second
    → (used ≡ other) × AreSameReports first second

abbrev pub OneHearing : Type 0
OneHearing =
    (host : HostView) (chunk : List ℕ) (used other : ℕ) (first second : Reporting)
    → first.old ≡ second.old → HearsReported host chunk used first
    → HearsReported host chunk other second → (used ≡ other) × AreSameReports first second

-- a chunk is used up to one place
abbrev pub OneUse : Type 0
OneUse =
    (held chunk : List ℕ) (capacity used other : ℕ)
    → UsesUpTo held chunk capacity used → UsesUpTo held chunk capacity other → used ≡ other

-- an array for one event has room only while it is empty, and a body ends a chunk's reading
abbrev pub RoomIsLeft : Type 0
RoomIsLeft =
    ((made : List Placed) → GoesOn 1 made → made ≡ [])
    × ((capacity : ℕ) (made : List Placed) → GoesOn capacity made → bodies made ≡ [])

abbrev pub OneReportEach : Type 0
OneReportEach =
    (before : ℕ) (host : HostView) (made : List Placed) (first second : List DgtEvent)
    → ReportsEach before host made first → ReportsEach before host made second → first ≡ second

-- the reserved member of a struct that reports an event, of a chunk or by itself, is zero
abbrev pub ReportsReserveZeros : Type 0
ReportsReserveZeros =
    ((place : ℕ) (event : Option Event) → (reported_at place event).reserved ≡ replicate 29 0)
    × ((place : ℕ) (event : Option Event) (unasked : Bool) (reported : Reporting)
    → ReportsEvent place event unasked reported → reported.event.reserved ≡ replicate 29 0)
    × ((before : ℕ) (awaited : List Kind) (x : Placed) (reported : DgtEvent)
    → Reports before awaited x reported → reported.reserved ≡ replicate 29 0)

-- the reserved member of a struct that views a message is zero
abbrev pub ViewsReserveZeros : Type 0
ViewsReserveZeros =
    (code : ℕ) (body : List ℕ) → (view_reported code body).reserved ≡ replicate 29 0

-- ---- commands

-- the reserved member of a struct that reports a command or a fault is zero
abbrev pub CommandsReserveZeros : Type 0
CommandsReserveZeros =
    (event : Option EventContent) (reported : CommandReporting) → ReportsCommand event reported
    → reported.command.reserved ≡ replicate 4 0

pub record AreSameCommands (first second : CommandReporting) : Type 0 where
  pub command : first.command ≡ second.command
  pub new : first.new ≡ second.new

abbrev pub OneWord : Type 0
OneWord =
    (held chunk : List ℕ) (used other : ℕ) (first second : CommandReporting)
    (after rest : List ℕ) → used ≤ length chunk → other ≤ length chunk → first.old ≡ second.old
    → FeedsWords held chunk used first after → FeedsWords held chunk other second rest
    → (used ≡ other) × AreSameCommands first second × (after ≡ rest)

abbrev pub OneTaking : Type 0
OneTaking =
    (before after last : BoardView) (chunk : List ℕ) (used other : ℕ)
    (first second : CommandReporting) → used ≤ length chunk → other ≤ length chunk
    → first.old ≡ second.old → TakesBytes before chunk used first after
    → TakesBytes before chunk other second last
    → (used ≡ other) × AreSameCommands first second × (after ≡ last)

-- a busy board uses nothing, reports nothing and is unchanged
abbrev pub BusyBoardsStay : Type 0
BusyBoardsStay =
    (before after : BoardView) (chunk : List ℕ) (taken : DgtTaken) (reported : CommandReporting)
    → taken.busy ≡ true → Takes before chunk taken reported after
    → (taken.used ≡ 0) × (reported.command.kind ≡ 0) × (reported.new ≡ reported.old)
    × (after ≡ before)

-- ---- the values in structs

-- a struct describes one clock, with values in their ranges
abbrev pub OneClock : Type 0
OneClock =
    (said : DgtClock) (first second : ClockState) → SaysClock said first → SaysClock said second
    → first ≡ second

abbrev pub ClocksAreInRange : Type 0
ClocksAreInRange =
    ((said : DgtClock) (times : Times) → SaysClock said (ClockState.times times) → AreTimes times)
    × ((said : DgtClock) (absence : Absence) → SaysClock said (ClockState.no_clock absence)
    → IsAbsence absence)

-- structs describe one board, and an identity with values in their ranges
abbrev pub OneStart : Type 0
OneStart =
    (codes : List ℕ) (clock : DgtClock) (identity : DgtIdentity) (board other : BoardView)
    → Starts codes clock identity board → Starts codes clock identity other → board ≡ other

abbrev pub IsShort : DgtBody → Type 0
IsShort said = (said.len ≤ 64) × AreSevenBit (take said.len said.bytes)

abbrev pub IdentitiesAreInRange : Type 0
IdentitiesAreInRange =
    (codes : List ℕ) (clock : DgtClock) (identity : DgtIdentity) (board : BoardView)
    → Starts codes clock identity board
    → AreSevenBit identity.serial × (identity.main_number < 128) × (identity.sub_number < 128)
    × IsShort identity.trademark × IsShort identity.battery × IsShort identity.long_serial
    × All (λ byte. byte ≡ 0) identity.reserved

-- ---- encodings and refusals

abbrev pub OneEncoding : Type 0
OneEncoding =
    (bytes old new other : List ℕ) (reported also : DgtEncoded)
    → EncodesBytes bytes old new reported → EncodesBytes bytes old other also
    → (new ≡ other) × (reported ≡ also)

-- if the struct describes no message, nothing is encoded and the slice is unchanged
abbrev pub NothingIsEncoded : Type 0
NothingIsEncoded =
    (said : DgtEvent) (body old new : List ℕ) (reported : DgtEncoded)
    → ((message : Content) → ¬ (SaysMessage said body message))
    → EncodesMessage said body old new reported → (reported.status ≡ 3) × (new ≡ old)

-- if the struct describes a message, one such message is encoded
abbrev pub MessagesAreEncoded : Type 0
MessagesAreEncoded =
    (said : DgtEvent) (body old new : List ℕ) (reported : DgtEncoded) (message : Content)
    → SaysMessage said body message → EncodesMessage said body old new reported
    → (other : Content) × SaysMessage said body other
    × EncodesBytes (encoding other) old new reported

-- nothing is read only if the struct describes no message
abbrev pub MessagesAreRead : Type 0
MessagesAreRead =
    (said : DgtEvent) (body : List ℕ) (message : Content) → SaysMessage said body message
    → ¬ (ReadsMessage said body None)

-- the values of an event are in their ranges
abbrev pub IsEvent : Event → Type 0
IsEvent (Message said) = IsMessage said
IsEvent (Refused code fault) = code < 128
IsEvent event = event ≡ event

-- the struct and the body that report an event describe it
abbrev pub ReportsAreSaid : Type 0
ReportsAreSaid =
    (place : ℕ) (event : Event) → IsEvent event
    → SaysEvent (reported_at place (Some event)) (body_said (Some event)) event

-- if the struct describes an event, the text of such an event is written
abbrev pub EventsHaveTexts : Type 0
EventsHaveTexts =
    (said : DgtEvent) (body old new : List ℕ) (reported : DgtEncoded) (event : Event)
    → SaysEvent said body event → WritesText said body old new reported
    → (other : Event) × SaysEvent said body other
    × EncodesBytes (event_text other ++ 0 ∷ []) old new reported

-- if the struct describes no event, nothing is written
abbrev pub NothingHasNoText : Type 0
NothingHasNoText =
    (said : DgtEvent) (body old new : List ℕ) (reported : DgtEncoded)
    → ((event : Event) → ¬ (SaysEvent said body event))
    → WritesText said body old new reported → (reported.status ≡ 3) × (new ≡ old)

-- nothing is read only if the struct describes no event
abbrev pub EventsAreRead : Type 0
EventsAreRead =
    (said : DgtEvent) (body : List ℕ) (event : Event) → SaysEvent said body event
    → ¬ (ReadsEvent said body None)

-- from one state and one slice, a call leaves one of each, and reports one struct
abbrev pub LeavesOne : {S R : Type 0} → (S → S → List ℕ → List ℕ → R → Type 0) → Type 0
LeavesOne {S} {R} Leaves =
    (before after other : S) (old new also : List ℕ) (r s : R)
    → Leaves before after old new r → Leaves before other old also s
    → (after ≡ other) × (new ≡ also) × (r ≡ s)

-- if there is no such command, the host and the slice are unchanged
abbrev pub RefusedCommandsStay : Type 0
RefusedCommandsStay =
    (before after : HostView) (old new : List ℕ) (reported : DgtSent)
    → RefusesCommand before after old new reported
    → (reported.status ≡ 3) × (after ≡ before) × (new ≡ old)

-- a text is shown if and only if its characters have segments
abbrev pub TextsAreShown : Type 0
TextsAreShown =
    (written : CommandContent → List ℕ) (text old new : List ℕ) (dots beep : ℕ)
    (before after : HostView) (reported : DgtSent)
    → SendsDisplay written text dots beep before after old new reported
    → (¬ (HasNoSegments text) → (message : ClockContent) × Shows text dots beep message
    × SendsClock written message before after old new reported)
    × (((message : ClockContent) → ¬ (Shows text dots beep message))
    → RefusesCommand before after old new reported)
