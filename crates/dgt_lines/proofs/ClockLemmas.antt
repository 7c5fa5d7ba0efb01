-- Which clocks are reported, and that the other reports are those without them.
use Rattle.std.{proofs.Common.{◌≡◌, ◌≢◌, ℕ, List, [], ◌∷◌, ◌++◌, Option, Some, None, refl, ◌∙◌, ap, append-nil, rules}, specs.{List.{last_or}, Prelude.{option_map, Bool, true, false}}}
use Rattle.{dgt_message.specs.{Clock.{ClockState}, Content.{clock_message}}, dgt_decode.specs.Grammar.{Event, Message, Placed, events}, dgt_lines.specs.Clocks.{clock_text}}
use Rattle.dgt_lines.specs.Reports.{ClockLeavesReports, HiddenClockIsSilent, LastLineIsClock, OtherClocksAreReported, Report, SaysClock, ShowsClock, clock_after_event, clock_after_events}
use Rattle.dgt_lines.specs.Reports.{clock_reports, clocking, clocks_shown, new_state, reports, reports_at, state_after_event, state_after_events, without_clock}
use Rattle.dgt_lines.{specs.declared.{clocks.ShownClock.{ShownClock, TheVariants.{Hidden, Unknown, Known}}, doubts.PictureState.{PictureState}}, proofs.DoubtLemmas.{always_hidden}}
use Rattle.dgt_lines.proofs.{PictureLemmas.{last_or-append}, ReportLemmas.{reports-append}}

-- ---- the reports but those of the clock

without-append : (xs ys : List Report)
    → without_clock (xs ++ ys) ≡ without_clock xs ++ without_clock ys
without-append [] ys = refl
without-append (ShowsClock place text ∷ xs) ys = without-append xs ys
without-append (report ∷ xs) ys = ap (λ l. report ∷ l) (without-append xs ys)

-- the state, but that the clock is not shown
abbrev hidden : PictureState → PictureState
hidden state = record state { clock = Hidden }

one_stays : (place : ℕ) (event : Event) (before : PictureState)
    → without_clock (reports_at place event before) ≡ reports_at place event (hidden before)
one_stays place event before = search rules

one_hidden : (event : Event) (before : PictureState)
    → hidden (state_after_event before event) ≡ state_after_event (hidden before) event
one_hidden event before = search rules

all_stay : (before : PictureState) (xs : List Placed)
    → without_clock (reports before xs) ≡ reports (hidden before) xs
all_stay before [] = refl
all_stay before (x ∷ xs) =
    let after = state_after_event before x.event in
    without-append (reports_at x.place x.event before) (reports after xs)
    ∙ ap (λ l. l ++ without_clock (reports after xs)) (one_stays x.place x.event before)
    ∙ ap (λ l. reports_at x.place x.event (hidden before) ++ l)
    (all_stay after xs ∙ ap (λ s. reports s xs) (one_hidden x.event before))

pub clock_leaves_reports : ClockLeavesReports
clock_leaves_reports doubts placed = all_stay (new_state doubts true) placed

-- ---- the texts of the clock among the reports

clocks-append : (xs ys : List Report) → clocks_shown (xs ++ ys) ≡ clocks_shown xs ++ clocks_shown ys
clocks-append [] ys = refl
clocks-append (ShowsClock place text ∷ xs) ys = ap (λ l. text ∷ l) (clocks-append xs ys)
clocks-append (_ ∷ xs) ys = clocks-append xs ys

-- an event has no line of the clock if what it says of the clock has none
one_silent : (place : ℕ) (event : Event) (before : PictureState)
    → ((clock : ClockState) → event ≡ Message (clock_message clock)
    → clocks_shown (clock_reports place (clock_text clock) before.clock) ≡ [])
    → clocks_shown (reports_at place event before) ≡ []
one_silent place event before h = search rules

all_silent : (before : PictureState) (xs : List Placed) → before.clock ≡ Hidden
    → clocks_shown (reports before xs) ≡ []
all_silent before [] h = refl
all_silent before (x ∷ xs) h =
    let after = state_after_event before x.event in
    clocks-append (reports_at x.place x.event before) (reports after xs)
    ∙ ap (λ l. l ++ clocks_shown (reports after xs)) (one_silent x.place x.event before
    (λ clock e. ap (λ c. clocks_shown (clock_reports x.place (clock_text clock) c)) h))
    ∙ all_silent after xs (always_hidden before (x ∷ []) h)

pub hidden_clock_is_silent : HiddenClockIsSilent
hidden_clock_is_silent doubts placed = all_silent (new_state doubts false) placed refl

-- ---- the clock that is known

-- what is shown of it
abbrev shown_of : Option ClockState → ShownClock
shown_of None = Unknown
shown_of (Some clock) = Known (clock_text clock)

one_shown : (event : Event) (before : PictureState) (clock : Option ClockState)
    → before.clock ≡ shown_of clock
    → (state_after_event before event).clock ≡ shown_of (clock_after_event clock event)
one_shown event before clock h = search rules

all_shown : (xs : List Placed) (before : PictureState) (clock : Option ClockState)
    → before.clock ≡ shown_of clock
    → (state_after_events before xs).clock ≡ shown_of (clock_after_events clock xs)
all_shown [] before clock h = h
all_shown (x ∷ xs) before clock h =
    all_shown xs (state_after_event before x.event) (clock_after_event clock x.event)
    (one_shown x.event before clock h)

-- ---- the last line of the clock

one_last : (place : ℕ) (event : Event) (before : PictureState) (clock : Option ClockState)
    → before.clock ≡ shown_of clock
    → last_or (option_map clock_text clock) (clocks_shown (reports_at place event before))
    ≡ option_map clock_text (clock_after_event clock event)
one_last place event before clock h = search rules

all_last : (xs : List Placed) (before : PictureState) (clock : Option ClockState)
    → before.clock ≡ shown_of clock
    → last_or (option_map clock_text clock) (clocks_shown (reports before xs))
    ≡ option_map clock_text (clock_after_events clock xs)
all_last [] before clock h = refl
all_last (x ∷ xs) before clock h =
    let after = state_after_event before x.event in
    let heard = clock_after_event clock x.event in
    let first = reports_at x.place x.event before in
    ap (last_or (option_map clock_text clock)) (clocks-append first (reports after xs))
    ∙ last_or-append (option_map clock_text clock) (clocks_shown first)
    (clocks_shown (reports after xs))
    ∙ ap (λ o. last_or o (clocks_shown (reports after xs)))
    (one_last x.place x.event before clock h)
    ∙ all_last xs after heard (one_shown x.event before clock h)

pub last_line_is_clock : LastLineIsClock
last_line_is_clock doubts bytes = all_last (events bytes) (new_state doubts true) None refl

-- ---- what is reported of one event more

-- the state after events that have nothing before them
abbrev now : Bool → List Placed → PictureState
now doubts earlier = state_after_events (new_state doubts true) earlier

one_more : (doubts : Bool) (earlier : List Placed) (x : Placed) (reported : List Report)
    → reports_at x.place x.event (now doubts earlier) ≡ reported
    → clocking doubts (earlier ++ x ∷ []) ≡ clocking doubts earlier ++ reported
one_more doubts earlier x reported e = search (rules, reports-append)

clock_at : (doubts : Bool) (earlier : List Placed) (x : Placed) (clock : ClockState)
    → SaysClock x clock → reports_at x.place x.event (now doubts earlier)
    ≡ clock_reports x.place (clock_text clock) (shown_of (clock_after_events None earlier))
clock_at doubts earlier x clock s = search (rules, all_shown)

other_news : (place : ℕ) (text : List ℕ) (clock : Option ClockState)
    → option_map clock_text clock ≢ Some text
    → clock_reports place text (shown_of clock) ≡ ShowsClock place text ∷ []
other_news place text clock n = search rules

same_news : (place : ℕ) (text : List ℕ) (clock : Option ClockState)
    → option_map clock_text clock ≡ Some text → clock_reports place text (shown_of clock) ≡ []
same_news place text clock h = search rules

pub other_clocks_are_reported : OtherClocksAreReported
other_clocks_are_reported = record {
  other = λ doubts earlier x clock s n.
      one_more doubts earlier x _
      (clock_at doubts earlier x clock s
      ∙ other_news x.place (clock_text clock) (clock_after_events None earlier) n);
  same = λ doubts earlier x clock s h.
      one_more doubts earlier x _
      (clock_at doubts earlier x clock s
      ∙ same_news x.place (clock_text clock) (clock_after_events None earlier) h)
      ∙ append-nil _;
  silent = search (rules, one_more, clocks-append, one_silent);
}
