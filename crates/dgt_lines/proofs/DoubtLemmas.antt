-- Which faults are reported, and that the pictures are.
use Rattle.std.proofs.{Common.{◌≡◌, ◌⊎◌, true, false, ℕ, List, [], ◌∷◌, ◌++◌, Option, Some, refl, sym, ◌∙◌, ap, inl, inr, append-nil, map, rules}, lemmas.{Grind.{fold-append}, List.{map-append}}}
use Rattle.{std.specs.{List.{AllByRecursion, flat_map}, Prelude.{option_map, ⊤}}, dgt_values.specs.declared.pieces.Piece.{Piece}, dgt_message.specs.Content.{Content, Content.{dump, field}}}
use Rattle.{dgt_decode.specs.Grammar.{Event, Message, Placed, at_place, events}, dgt_lines.specs.{Pictures.{PlacedPicture, picture_after_event, picture_line, picture_set, pictures}, Reports.{Report}}}
use Rattle.dgt_lines.specs.Reports.{Shows, Doubts, DoubtsKeepThePicture, DoubtsLeavePictures, FirstFaultsAreReported, IgnoredFaultsAreSilent, IsFault, IsNoFault, IsSure, doubt_raised, doubting}
use Rattle.dgt_lines.specs.{Reports.{new_state, pictures_shown, report_line, reports, reports_at, state_after_event, state_after_events}, declared.doubts.{Doubt.{Doubt}, PictureState.{PictureState}}}
use Rattle.dgt_lines.{specs.declared.{clocks.ShownClock.TheVariants.{Hidden}, doubts.Doubt.TheVariants.{Ignored, Clear}}, proofs.ReportLemmas.{reports-append}}

-- ---- the picture

one_picture : (before : PictureState) (event : Event)
    → (state_after_event before event).picture ≡ picture_after_event before.picture event
one_picture before event = search rules

pub picture_kept : DoubtsKeepThePicture
picture_kept before [] = refl
picture_kept before (x ∷ xs) =
    search (rules, one_picture, picture_kept (state_after_event before x.event) xs)

-- ---- the pictures among the reports

shown_are_pictures : (before : PictureState) (xs : List Placed)
    → pictures_shown (reports before xs) ≡ pictures before.picture xs
shown_are_pictures before [] = refl
shown_are_pictures before (x ∷ xs) =
    let after = state_after_event before x.event in
    search (rules, shown_are_pictures after xs)

pub doubts_leave_pictures : DoubtsLeavePictures
doubts_leave_pictures doubts clock bytes =
    shown_are_pictures (new_state doubts clock) (events bytes)

-- ---- if the clock is not shown

-- what a message without the clock reports
abbrev sets : ℕ → Event → PictureState → List Report
sets place event before =
    map Shows (picture_set place event (picture_after_event before.picture event))

still_hidden : (before : PictureState) (event : Event) → before.clock ≡ Hidden
    → (state_after_event before event).clock ≡ Hidden
still_hidden before event h = search rules

pub always_hidden : (before : PictureState) (xs : List Placed) → before.clock ≡ Hidden
    → (state_after_events before xs).clock ≡ Hidden
always_hidden before [] h = h
always_hidden before (x ∷ xs) h =
    always_hidden (state_after_event before x.event) xs (still_hidden before x.event h)

-- ---- if faults raise no doubt

module _ (before : PictureState) (ignored : before.doubt ≡ Ignored) where
  still_ignored : (event : Event) → (state_after_event before event).doubt ≡ Ignored
  still_ignored event = search rules

  one_ignored : (place : ℕ) (event : Event) → before.clock ≡ Hidden
      → reports_at place event before ≡ sets place event before
  one_ignored place event h = search rules

all_ignored : (before : PictureState) (xs : List Placed) → before.doubt ≡ Ignored
    → before.clock ≡ Hidden → reports before xs ≡ map Shows (pictures before.picture xs)
all_ignored before [] ignored hidden = refl
all_ignored before (x ∷ xs) ignored hidden =
    let after = state_after_event before x.event in
    let set = picture_set x.place x.event (picture_after_event before.picture x.event) in
    ap (λ l. l ++ reports after xs) (one_ignored before ignored x.place x.event hidden)
    ∙ ap (λ l. map Shows set ++ l)
    (all_ignored after xs (still_ignored before ignored x.event)
    (still_hidden before x.event hidden)
    ∙ ap (λ p. map Shows (pictures p xs)) (one_picture before x.event))
    ∙ sym (map-append Shows set (pictures (picture_after_event before.picture x.event) xs))

shown_lines : (xs : List PlacedPicture)
    → flat_map report_line (map Shows xs) ≡ flat_map picture_line xs
shown_lines [] = refl
shown_lines (x ∷ xs) = ap (λ l. picture_line x ++ l) (shown_lines xs)

pub ignored_faults_are_silent : IgnoredFaultsAreSilent
ignored_faults_are_silent bytes = search (rules, all_ignored, shown_lines)

-- ---- a state in which the next fault is reported

abbrev Settled : Option (List Piece) → Doubt → Type 0
Settled (Some _) Clear = ⊤
Settled _ _ = ⊥

abbrev IsSettled : PictureState → Type 0
IsSettled state = Settled state.picture state.doubt

settled_fault : (place : ℕ) (picture : Option (List Piece)) (doubt : Doubt) → Settled picture doubt
    → doubt_raised place picture doubt ≡ Doubts place ∷ []
settled_fault place picture doubt h = search rules

was_settled : (f : List Piece → List Piece) (picture : Option (List Piece)) (doubt : Doubt)
    → Settled (option_map f picture) doubt → Settled picture doubt
was_settled f picture doubt h = search rules

event_settles : (before : PictureState) (event : Event) → (IsFault event → ⊥) → IsSettled before
    → IsSettled (state_after_event before event)
event_settles before event m h = search rules

events_settle : (before : PictureState) (xs : List Placed) → AllByRecursion IsNoFault xs
    → IsSettled before → IsSettled (state_after_events before xs)
events_settle before [] m h = h
events_settle before (x ∷ xs) m h =
    events_settle (state_after_event before x.event) xs m.1 (event_settles before x.event m.0 h)

-- ---- a dump settles it, unless faults raise no doubt

abbrev MayRaise : Doubt → Type 0
MayRaise Ignored = ⊥
MayRaise _ = ⊤

event_may : (before : PictureState) (event : Event) → MayRaise before.doubt
    → MayRaise (state_after_event before event).doubt
event_may before event h = search rules

events_may : (before : PictureState) (xs : List Placed) → MayRaise before.doubt
    → MayRaise (state_after_events before xs).doubt
events_may before [] h = h
events_may before (x ∷ xs) h =
    events_may (state_after_event before x.event) xs (event_may before x.event h)

-- ---- it is so after a dump, and no fault since

abbrev start : PictureState
start = new_state true false

sure_settled : (xs : List Placed) → IsSure xs → IsSettled (state_after_events start xs)
sure_settled xs s = search (rules, events_may, fold-append, events_settle)

-- either these events have the dump, or it was so before them
abbrev Since : PictureState → List Placed → Type 0
Since before xs = (IsSettled before × AllByRecursion IsNoFault xs) ⊎ IsSure xs

module _ (before : PictureState) (place : ℕ) (xs : List Placed)
    (m : AllByRecursion IsNoFault xs) where
  since_message : (said : Content) → IsSettled (state_after_event before (Message said))
      → Since before (at_place place (Message said) ∷ xs)
  since_message (dump pieces) h = inr
      (record { early = []; place = place; pieces = pieces; late = xs; whole = refl; no_fault = m })
  since_message (field square piece) h =
      inl (was_settled _ before.picture before.doubt h, (λ f. f, m))
  since_message _ h = inl (h, (λ f. f, m))

  since_event : (event : Event) → IsSettled (state_after_event before event)
      → Since before (at_place place event ∷ xs)
  since_event event h = search (rules, since_message)

sure_later : (x : Placed) (xs : List Placed) → IsSure xs → IsSure (x ∷ xs)
sure_later x xs s = record {
  early = x ∷ s.early;
  place = s.place;
  pieces = s.pieces;
  late = s.late;
  whole = ap (λ l. x ∷ l) s.whole;
  no_fault = s.no_fault;
}

since : (before : PictureState) (xs : List Placed) → IsSettled (state_after_events before xs)
    → Since before xs
since before [] h = inl (h, tt)
since before (x ∷ xs) h = elim (since (state_after_event before x.event) xs h) [
  | inl k ↦ since_event before x.place xs k.1 x.event k.0
  | inr s ↦ inr (sure_later x xs s)
]

settled_sure : (xs : List Placed) → IsSettled (state_after_events start xs) → IsSure xs
settled_sure xs h = elim (since start xs h) [ inl k ↦ absurd k.0 | inr s ↦ s ]

-- ---- what is reported of one event more

one_more : (earlier : List Placed) (x : Placed) (reported : List Report)
    → reports_at x.place x.event (state_after_events start earlier) ≡ reported
    → doubting (earlier ++ x ∷ []) ≡ doubting earlier ++ reported
one_more earlier x reported e =
    reports-append start earlier (x ∷ []) ∙ ap (λ l. doubting earlier ++ l) (append-nil _ ∙ e)

pub first_faults_are_reported : FirstFaultsAreReported
first_faults_are_reported = record {
  nothing = refl;
  first = search (rules, one_more, settled_fault, sure_settled);
  later = search (rules, one_more, settled_sure);
  messages = search (rules, one_more, always_hidden, picture_kept);
  unreadable = search (rules, one_more);
}
