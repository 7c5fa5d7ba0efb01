-- The lines of positions, of doubts and of the clock. A fault may mean that a message was lost. The
-- first fault after a dump puts the picture in doubt, until the next dump. A clock message that is
-- refused for a digit, an unreadable one, doesn't count as a fault: it is whole, and clocks send it
-- while they are being set. The clock has a line if its text differs from the last one.
use Rattle.std.specs.Prelude.{◌≡◌, ◌≢◌, ⊤, Bool, true, false, ℕ, List, [], ◌∷◌, ◌++◌, fold, map, bytes_eq, codes, if◌then◌else◌, Option, Some, None, option_map}
use Rattle.std.specs.List.{AllByRecursion, flat_map, last_or}
use Rattle.dgt_values.specs.declared.pieces.Piece.{Piece}
use Rattle.dgt_message.specs.Clock.{ClockState}
use Rattle.dgt_message.specs.Content.{Content, clock_message}
use Rattle.dgt_message.specs.Content.Content.{dump, times, no_clock}
use Rattle.dgt_message.specs.declared.viewing.BodyFault.TheVariants.{BadReading}
use Rattle.dgt_decode.specs.Grammar.{Event, Message, Placed, Refused, at_place, events}
use Rattle.dgt_message.specs.Picture.{clock_after, picture_after}
use Rattle.dgt_lines.specs.declared.clocks.ShownClock.{ShownClock}
use Rattle.dgt_lines.specs.declared.clocks.ShownClock.TheVariants.{Hidden, Unknown, Known}
use Rattle.dgt_lines.specs.declared.doubts.Doubt.{Doubt}
use Rattle.dgt_lines.specs.declared.doubts.Doubt.TheVariants.{Ignored, Clear, Raised}
use Rattle.dgt_lines.specs.declared.doubts.News.{News}
use Rattle.dgt_lines.specs.declared.doubts.News.TheVariants.{Nothing, Picture, Clock}
use Rattle.dgt_lines.specs.declared.doubts.PictureState.{PictureState}
use Rattle.dgt_lines.specs.Clocks.{clock_text}
use Rattle.dgt_lines.specs.Lines.{line}
use Rattle.dgt_lines.specs.Pictures.{PlacedPicture, known_at, made_by, picture_after_events, picture_line, picture_set, pictures, pictures_text}

-- ---- The state

-- the first state, in which nothing is known; whether faults raise doubts, and whether the clock is
-- shown
abbrev pub new_state : Bool → Bool → PictureState
new_state doubts clock = record {
  picture = None;
  doubt = if doubts then Clear else Ignored;
  clock = if clock then Unknown else Hidden;
}

-- a dump ends a doubt
abbrev pub doubt_cleared : Doubt → Doubt
doubt_cleared Raised = Clear
doubt_cleared doubt = doubt

abbrev pub doubt_after : Doubt → Content → Doubt
doubt_after doubt (dump _) = doubt_cleared doubt
doubt_after doubt _ = doubt

-- a fault raises a doubt about a known picture
abbrev pub doubt_after_fault : Option (List Piece) → Doubt → Doubt
doubt_after_fault (Some _) Clear = Raised
doubt_after_fault _ doubt = doubt

-- the text is the last one
abbrev pub shown_after : List ℕ → ShownClock → ShownClock
shown_after text Hidden = Hidden
shown_after text _ = Known text

abbrev pub clock_shown_after : ShownClock → Content → ShownClock
clock_shown_after clock (times readings) =
    shown_after (clock_text (ClockState.times readings)) clock
clock_shown_after clock (no_clock absence) =
    shown_after (clock_text (ClockState.no_clock absence)) clock
clock_shown_after clock _ = clock

abbrev pub state_after_fault : PictureState → PictureState
state_after_fault before = record {
  picture = before.picture;
  doubt = doubt_after_fault before.picture before.doubt;
  clock = before.clock;
}

abbrev pub state_after_message : PictureState → Content → PictureState
state_after_message before said = record {
  picture = picture_after before.picture said;
  doubt = doubt_after before.doubt said;
  clock = clock_shown_after before.clock said;
}

-- an event is a message, an unreadable clock message, or a fault
abbrev pub state_after_event : PictureState → Event → PictureState
state_after_event before (Message said) = state_after_message before said
state_after_event before (Refused code (BadReading at)) = before
state_after_event before _ = state_after_fault before

abbrev pub state_after_events : PictureState → List Placed → PictureState
state_after_events before placed = fold (λ state x. state_after_event state x.event) before placed

-- ---- Reports

-- a report of the pieces of the board, of a doubt from a place on, or of the text of the clock at a
-- place
pub data Report : Type 0 where
  Shows : PlacedPicture → Report
  Doubts : ℕ → Report
  ShowsClock : ℕ → List ℕ → Report

-- a fault is reported if it raises a doubt
abbrev pub doubt_raised : ℕ → Option (List Piece) → Doubt → List Report
doubt_raised place (Some _) Clear = Doubts place ∷ []
doubt_raised place _ _ = []

abbrev pub fault_reports : ℕ → PictureState → List Report
fault_reports place before = doubt_raised place before.picture before.doubt

-- a text of the clock is reported if the clock is shown, and the text differs from the last one
abbrev pub clock_reports : ℕ → List ℕ → ShownClock → List Report
clock_reports place text Hidden = []
clock_reports place text Unknown = ShowsClock place text ∷ []
clock_reports place text (Known last) =
    if bytes_eq last text then [] else ShowsClock place text ∷ []

-- the last text, if there is one
abbrev pub clock_known_at : ℕ → ShownClock → List Report
clock_known_at place (Known text) = ShowsClock place text ∷ []
clock_known_at place _ = []

-- a message is reported if it sets the picture, or has another text of the clock
abbrev pub message_reports : ℕ → Content → PictureState → List Report
message_reports place (times readings) before =
    clock_reports place (clock_text (ClockState.times readings)) before.clock
message_reports place (no_clock absence) before =
    clock_reports place (clock_text (ClockState.no_clock absence)) before.clock
message_reports place said before =
    map Shows (picture_set place (Message said) (picture_after before.picture said))

-- the report of this kind for a message at this place, with the state after it
abbrev pub news_at : ℕ → News → PictureState → List Report
news_at place Nothing after = []
news_at place Picture after = map Shows (known_at place after.picture)
news_at place Clock after = clock_known_at place after.clock

-- the report of an event at this place, with the state before it
abbrev pub reports_at : ℕ → Event → PictureState → List Report
reports_at place (Message said) before = message_reports place said before
reports_at place (Refused code (BadReading at)) before = []
reports_at place _ before = fault_reports place before

-- the reports of events, one after another, with the state before them
abbrev pub reports : PictureState → List Placed → List Report
reports before placed = made_by state_after_event reports_at before placed

-- ---- Lines

abbrev pub report_line : Report → List ℕ
report_line (Shows x) = picture_line x
report_line (Doubts place) = line place (codes "doubt")
report_line (ShowsClock place text) = line place text

abbrev pub report_lines : PictureState → List Placed → List ℕ
report_lines before placed = flat_map report_line (reports before placed)

-- the lines of bytes, from this state on
abbrev pub text_from : PictureState → List ℕ → List ℕ
text_from before bytes = report_lines before (events bytes)

-- the state after bytes, from this state on
abbrev pub state_from : PictureState → List ℕ → PictureState
state_from before bytes = state_after_events before (events bytes)

-- the lines of bytes, from the first state on
abbrev pub report_text : Bool → Bool → List ℕ → List ℕ
report_text doubts clock bytes = text_from (new_state doubts clock) bytes

-- ---- Facts about them

-- the pictures among the reports
abbrev pub pictures_shown : List Report → List PlacedPicture
pictures_shown [] = []
pictures_shown (Shows x ∷ more) = x ∷ pictures_shown more
pictures_shown (_ ∷ more) = pictures_shown more

-- these are the pictures that the bytes set
abbrev pub DoubtsLeavePictures : Type 0
DoubtsLeavePictures =
    (doubts clock : Bool) (bytes : List ℕ)
    → pictures_shown (reports (new_state doubts clock) (events bytes))
    ≡ pictures None (events bytes)

-- the picture after events is the same with and without doubts
abbrev pub DoubtsKeepThePicture : Type 0
DoubtsKeepThePicture =
    (before : PictureState) (placed : List Placed) → (state_after_events before placed).picture
    ≡ picture_after_events before.picture placed

-- if faults raise no doubt and the clock is not shown, the lines are those of the pictures
abbrev pub IgnoredFaultsAreSilent : Type 0
IgnoredFaultsAreSilent =
    (bytes : List ℕ) → report_text false false bytes ≡ pictures_text bytes

-- an event other than a message or an unreadable message of the clock
abbrev pub IsFault : Event → Type 0
IsFault (Message _) = ⊥
IsFault (Refused _ (BadReading _)) = ⊥
IsFault _ = ⊤

abbrev pub IsNoFault : Placed → Type 0
IsNoFault x = IsFault x.event → ⊥

-- a dump arrived, and no fault since
pub record IsSure (placed : List Placed) : Type 0 where
  pub early : List Placed
  pub place : ℕ
  pub pieces : List Piece
  pub late : List Placed
  pub whole : placed ≡ early ++ at_place place (Message (dump pieces)) ∷ late
  pub no_fault : AllByRecursion IsNoFault late

-- the reports of events from the first state on, if faults raise doubts
abbrev pub doubting : List Placed → List Report
doubting placed = reports (new_state true false) placed

-- A fault is reported exactly if it is the first since a dump, and a message if it sets the
-- picture. An unreadable clock message is not reported.
pub record FirstFaultsAreReported : Type 0 where
  pub nothing : doubting [] ≡ []
  pub first : (earlier : List Placed) (x : Placed) → IsFault x.event → IsSure earlier
      → doubting (earlier ++ x ∷ []) ≡ doubting earlier ++ Doubts x.place ∷ []
  pub later : (earlier : List Placed) (x : Placed) → IsFault x.event → (IsSure earlier → ⊥)
      → doubting (earlier ++ x ∷ []) ≡ doubting earlier
  pub messages : (earlier : List Placed) (place : ℕ) (said : Content)
      → doubting (earlier ++ at_place place (Message said) ∷ []) ≡ doubting earlier ++ map Shows
      (picture_set place (Message said) (picture_after (picture_after_events None earlier) said))
  pub unreadable : (earlier : List Placed) (place code at : ℕ)
      → doubting (earlier ++ at_place place (Refused code (BadReading at)) ∷ [])
      ≡ doubting earlier

-- ---- Facts about the clock

-- all reports but those of the clock
abbrev pub without_clock : List Report → List Report
without_clock [] = []
without_clock (ShowsClock _ _ ∷ more) = without_clock more
without_clock (report ∷ more) = report ∷ without_clock more

-- the texts of the clock among the reports
abbrev pub clocks_shown : List Report → List (List ℕ)
clocks_shown [] = []
clocks_shown (ShowsClock _ text ∷ more) = text ∷ clocks_shown more
clocks_shown (_ ∷ more) = clocks_shown more

-- these are the same as if the clock is not shown
abbrev pub ClockLeavesReports : Type 0
ClockLeavesReports =
    (doubts : Bool) (placed : List Placed) → without_clock (reports (new_state doubts true) placed)
    ≡ reports (new_state doubts false) placed

-- if the clock is not shown, it has no reports
abbrev pub HiddenClockIsSilent : Type 0
HiddenClockIsSilent =
    (doubts : Bool) (placed : List Placed)
    → clocks_shown (reports (new_state doubts false) placed) ≡ []

-- the clock after an event: only a message changes it
abbrev pub clock_after_event : Option ClockState → Event → Option ClockState
clock_after_event clock (Message said) = clock_after clock said
clock_after_event clock _ = clock

abbrev pub clock_after_events : Option ClockState → List Placed → Option ClockState
clock_after_events clock placed = fold (λ before x. clock_after_event before x.event) clock placed

-- the text of the clock after these events, if it is known, from an unknown clock on
abbrev pub last_clock_text : List Placed → Option (List ℕ)
last_clock_text placed = option_map clock_text (clock_after_events None placed)

-- The last line of the clock has the text of the clock after all messages that were read. There is
-- none if that clock is unknown.
abbrev pub LastLineIsClock : Type 0
LastLineIsClock =
    (doubts : Bool) (bytes : List ℕ)
    → last_or None (clocks_shown (reports (new_state doubts true) (events bytes)))
    ≡ last_clock_text (events bytes)

-- the reports of events from the first state on, if the clock is shown
abbrev pub clocking : Bool → List Placed → List Report
clocking doubts placed = reports (new_state doubts true) placed

-- the message reports this clock
abbrev pub SaysClock : Placed → ClockState → Type 0
SaysClock x clock = x.event ≡ Message (clock_message clock)

-- A message of the clock is reported exactly if its text differs from the last one, or is the
-- first. Other messages have no reports of the clock.
pub record OtherClocksAreReported : Type 0 where
  pub other : (doubts : Bool) (earlier : List Placed) (x : Placed) (clock : ClockState)
      → SaysClock x clock → last_clock_text earlier ≢ Some (clock_text clock)
      → clocking doubts (earlier ++ x ∷ [])
      ≡ clocking doubts earlier ++ ShowsClock x.place (clock_text clock) ∷ []
  pub same : (doubts : Bool) (earlier : List Placed) (x : Placed) (clock : ClockState)
      → SaysClock x clock → last_clock_text earlier ≡ Some (clock_text clock)
      → clocking doubts (earlier ++ x ∷ []) ≡ clocking doubts earlier
  pub silent : (doubts : Bool) (earlier : List Placed) (x : Placed)
      → ((clock : ClockState) → SaysClock x clock → ⊥)
      → clocks_shown (clocking doubts (earlier ++ x ∷ [])) ≡ clocks_shown (clocking doubts earlier)
