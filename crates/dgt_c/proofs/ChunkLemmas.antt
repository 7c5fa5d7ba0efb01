-- The events of a chunk, reported one after another.
use Rattle.std.proofs.Common.{◌≡◌, ◌↔◌, refl, sym, ap, ◌∙◌, ℕ, ◌+◌, ◌-◌, ◌<◌, ◌≤◌, List, [], ◌∷◌, ◌++◌, append_assoc, append-nil, length, take, drop, set, Some, None, Option, is_some, Bool, true}
use Rattle.std.proofs.{Common.{false, IsTrue, arith, inl, inr, rules}, Math.Seq.{take-add}, lemmas.{Bool.{cases_lt}, Grind.{flat_map-append, common_steps}, List.{drop-drop, drop-set-lt}}}
use Rattle.{std.proofs.lemmas.List.{length-append, length-drop, length-set, map-append, nil_from_length, take-append-drop, take_all, take_more_set}, dgt_decode.specs.Feeding.{FirstEvent}}
use Rattle.dgt_decode.specs.{Feeding.{event_content, event_content_if_any}, Grammar.{Event, Placed, at_place, events, shifted, unfinished_message}, Laws.{EventsAppend, UnfinishedAppend}}
use Rattle.{dgt_decode.specs.Laws.{UnfinishedIsPart, UnfinishedIsQuiet}, dgt_host.specs.Host.{HostView, IsUnasked, host_after, host_after_event, host_after_events}, dgt_c.specs.Chunks.{GoesOn}}
use Rattle.dgt_c.specs.{Chunks.{Reports, ReportsEach, UsesUpTo, bodies, each_reported, events_up_to}, Hearing.{flag}, Reported.{body_said, reported_at}, Slices.{overwritten}}
use Rattle.dgt_c.specs.declared.header.DgtEvent.{DgtEvent}
use Rattle.dgt_decode.specs.declared.event.Event as code

-- ---- More bytes

-- the events of more bytes follow the earlier events
events_more : EventsAppend → (held chunk : List ℕ) (i n : ℕ) → let s = held ++ take i chunk in
    events_up_to held chunk (i + n)
    ≡ events_up_to held chunk i ++ shifted (length s - length (unfinished_message s))
    (events (unfinished_message s ++ take n (drop i chunk)))
events_more later held chunk i n = search (rules, take-add, append_assoc)

-- bytes that complete no event
quiet : EventsAppend → (held chunk : List ℕ) (i n : ℕ)
    → events (unfinished_message (held ++ take i chunk) ++ take n (drop i chunk)) ≡ []
    → events_up_to held chunk (i + n) ≡ events_up_to held chunk i
quiet later held chunk i n none = search (rules, events_more, append-nil)

prefix_nil : {X : Type 0} (xs ys : List X) → xs ++ ys ≡ [] → xs ≡ []
prefix_nil [] ys e = refl
prefix_nil (x ∷ xs) ys e = absurd cc

-- a prefix of bytes that complete no event completes none
quiet_prefix : EventsAppend → (s p : List ℕ) → events (s ++ p) ≡ [] → events s ≡ []
quiet_prefix later s p none = search (rules, prefix_nil)

-- ---- The first event of the remaining bytes

-- the first k of some bytes, and the others of them
pub prefix_and_rest : (k n : ℕ) (xs : List ℕ) → k ≤ n
    → take n xs ≡ take k xs ++ take (n - k) (drop k xs)
prefix_and_rest k n xs h =
    let whole : k + (n - k) ≡ n = omega arith in
    ap (λ (m : ℕ). take m xs) (sym whole) ∙ take-add k (n - k) xs

-- before its last byte no used byte completes an event
quiet_before : EventsAppend → (held rest : List ℕ) (n k : ℕ) (event : Option Event)
    → FirstEvent held rest n event → k < n → events (held ++ take k rest) ≡ []
quiet_before later held rest n k None (all, none) h =
    quiet_prefix later (held ++ take k rest) (drop k rest)
    (search (rules, append_assoc, take-append-drop))
quiet_before later held rest n k (Some event) (within, made, least) h = least k h

-- the events of all bytes used then
quiet_used : EventsAppend → (held chunk : List ℕ) (i n : ℕ)
    → FirstEvent (unfinished_message (held ++ take i chunk)) (drop i chunk) n None
    → events_up_to held chunk (i + n) ≡ events_up_to held chunk i
quiet_used later held chunk i n (all, none) = search (rules, take_all, quiet)

-- the place of the next event
abbrev next_place : List ℕ → List ℕ → ℕ → ℕ → ℕ
next_place held chunk i n =
    let s : List ℕ = held ++ take i chunk in
    (length s - length (unfinished_message s)) + (length (unfinished_message s) + n)

-- in the chunk it is the number of bytes used then
place_in_chunk : UnfinishedIsPart → (held chunk : List ℕ) (i n : ℕ) → i ≤ length chunk
    → next_place held chunk i n - length held ≡ i + n
place_in_chunk part held chunk i n h = grind (arith, common_steps)

one_used : EventsAppend → (held chunk : List ℕ) (i n : ℕ) (event : Event)
    → FirstEvent (unfinished_message (held ++ take i chunk)) (drop i chunk) n (Some event)
    → events_up_to held chunk (i + n)
    ≡ events_up_to held chunk i ++ at_place (next_place held chunk i n) event ∷ []
one_used later held chunk i n event (within, made, least) = search (rules, events_more)

-- ---- A loop over a chunk

-- `used` bytes were used, and `count` events reported.
pub record HasRead (held chunk : List ℕ) (used count : ℕ) (old now : List DgtEvent) (body_len : ℕ)
    (old_body body : List ℕ) : Type 0 where
  pub within : used ≤ length chunk
  pub count_is : count ≡ length (events_up_to held chunk used)
  pub all : length now ≡ length old
  pub rest : drop count now ≡ drop count old
  pub body_is : body ≡ overwritten old_body (bodies (events_up_to held chunk used))
  pub body_len_is : body_len ≡ length (bodies (events_up_to held chunk used))
  pub least : (k : ℕ) → k < used → GoesOn (length old) (events_up_to held chunk k)

pub overwritten_nothing : (old : List ℕ) → overwritten old [] ≡ old
overwritten_nothing old = search rules

module _ (later : EventsAppend) (held chunk : List ℕ) (old : List DgtEvent)
    (old_body : List ℕ) where
  pub nothing_read : events (held ++ []) ≡ [] → HasRead held chunk 0 0 old old 0 old_body old_body
  nothing_read none = search (rules, overwritten_nothing)

  -- while the loop goes on
  goes_on : (used count body_len : ℕ) (now : List DgtEvent) (body : List ℕ)
      → HasRead held chunk used count old now body_len old_body body → count < length now
      → body_len ≡ 0 → GoesOn (length old) (events_up_to held chunk used)
  goes_on used count body_len now body before room no_body = search (rules, nil_from_length)

  least_more : (used n : ℕ) (event : Option Event)
      → ((k : ℕ) → k < used → GoesOn (length old) (events_up_to held chunk k))
      → GoesOn (length old) (events_up_to held chunk used)
      → FirstEvent (unfinished_message (held ++ take used chunk)) (drop used chunk) n event
      → (k : ℕ) → k < used + n → GoesOn (length old) (events_up_to held chunk k)
  least_more used n event least now first k h = elim (cases_lt k used) [
    | inl early ↦ least k early
    | inr late ↦
        let from : used + (k - used) ≡ k = omega (arith, late) in
        search (rules, quiet_before, quiet)
  ]

  pub none_read : (used n count body_len : ℕ) (now : List DgtEvent) (body : List ℕ)
      → HasRead held chunk used count old now body_len old_body body → count < length now
      → body_len ≡ 0 → used < length chunk
      → FirstEvent (unfinished_message (held ++ take used chunk)) (drop used chunk) n None
      → HasRead held chunk (used + n) count old now body_len old_body body
  none_read used n count body_len now body before room no_body more first =
      let same = quiet_used later held chunk used n first in
      let on = goes_on used count body_len now body before room no_body in
      record {
        within = omega (arith, first.0, length-drop used chunk, more);
        count_is = rw same before.count_is;
        all = before.all;
        rest = before.rest;
        body_is = rw same before.body_is;
        body_len_is = rw same before.body_len_is;
        least = least_more used n None before.least on first;
      }

  pub one_read : (used n count body_len : ℕ) (now : List DgtEvent) (body : List ℕ) (event : Event)
      (reported : DgtEvent) → HasRead held chunk used count old now body_len old_body body
      → count < length now → body_len ≡ 0 → used < length chunk
      → FirstEvent (unfinished_message (held ++ take used chunk)) (drop used chunk) n (Some event)
      → HasRead held chunk (used + n) (count + 1) old (set now count reported)
      (length (body_said (Some event))) old_body (overwritten body (body_said (Some event)))
  one_read used n count body_len now body event reported before room no_body more first =
      let x : Placed = at_place (next_place held chunk used n) event in
      let made = one_used later held chunk used n event first in
      let on = goes_on used count body_len now body before room no_body in
      let body_same : body ≡ old_body = search (rules, overwritten_nothing) in
      let all_bodies : bodies (events_up_to held chunk used ++ x ∷ []) ≡ body_said (Some event) =
      search (rules, flat_map-append, append-nil) in
      record {
        within = omega (arith, first.0, length-drop used chunk, more);
        count_is = search (rules, length-append);
        all = length-set now count reported ∙ before.all;
        rest = grind (arith, common_steps, drop-set-lt, drop-drop);
        body_is = rw (made, all_bodies, body_same) refl;
        body_len_is = rw (made, all_bodies) refl;
        least = least_more used n (Some event) before.least on first;
      }

  -- at the end of the loop
  uses_up_to : (used count body_len : ℕ) (now : List DgtEvent) (body : List ℕ)
      → HasRead held chunk used count old now body_len old_body body
      → ((used < length chunk) × (count < length now) × (body_len ≡ 0) → ⊥)
      → UsesUpTo held chunk (length old) used
  uses_up_to used count body_len now body before ended = search rules

  progress : (used : ℕ) → events (held ++ []) ≡ [] → UsesUpTo held chunk (length old) used
      → 0 < length chunk → 0 < length old → 0 < used
  progress used none uses some room = search (rules, cases_lt)

-- ---- A reader of a chunk: a host, or a decoder

-- its unfinished message, its state after some bytes, whether a struct contains the event that it
-- then reports, with this place, and structs the events that it has reported
pub record Hearer : Type 1 where
  pub S : Type 0
  pub held : S → List ℕ
  pub after : S → List ℕ → S
  pub Reports : S → ℕ → Option Event → DgtEvent → Type 0
  pub ReportsAll : S → List Placed → List DgtEvent → Type 0
  pub held_after : (x : S) (bytes : List ℕ)
      → held (after x bytes) ≡ unfinished_message (held x ++ bytes)
  pub none_reported : (x : S) → ReportsAll x [] []
  pub one_reported : (x : S) (bytes : List ℕ) (reported : List DgtEvent) (y : Placed)
      (one : DgtEvent) → ReportsAll x (events (held x ++ bytes)) reported
      → Reports (after x bytes) (y.place - length (held x)) (Some y.event) one
      → ReportsAll x (events (held x ++ bytes) ++ y ∷ []) (reported ++ one ∷ [])

pub reports_more : (before : ℕ) (host : HostView) (made : List Placed) (reported : List DgtEvent)
    (x : Placed) (one : DgtEvent) → ReportsEach before host made reported
    → Reports before (host_after_events host made).awaited x one
    → ReportsEach before host (made ++ x ∷ []) (reported ++ one ∷ [])
reports_more before host [] [] x one are is = (is, tt)
reports_more before host (y ∷ made) (t ∷ reported) x one are is =
    (are.0, reports_more before (host_after_event host y.event) made reported x one are.1 is)
reports_more before host _ _ x one are is = absurd are

abbrev pub host : Hearer
host = record {
  S = HostView;
  held = λ x. x.unread;
  after = host_after;
  Reports =
      λ x place event reported. (unasked : Bool) × (IsTrue unasked ↔ IsUnasked x.awaited event)
      × (reported ≡ record (reported_at place event) { unasked = flag unasked });
  ReportsAll = λ x. ReportsEach (length x.unread) x;
  held_after = λ x bytes. refl;
  none_reported = λ x. tt {0};
  one_reported = λ x bytes. reports_more (length x.unread) x (events (x.unread ++ bytes));
}

pub fed_more : (held bytes : List ℕ) (reported : List DgtEvent) (y : Placed) (one : DgtEvent)
    → reported ≡ each_reported (length held) (events (held ++ bytes))
    → one ≡ reported_at (y.place - length held) (Some y.event)
    → reported ++ one ∷ [] ≡ each_reported (length held) (events (held ++ bytes) ++ y ∷ [])
fed_more held bytes reported y one are is = search (rules, map-append)

abbrev pub decoder : Hearer
decoder = record {
  S = List ℕ;
  held = λ x. x;
  after = λ x bytes. unfinished_message (x ++ bytes);
  Reports = λ x place event reported. reported ≡ reported_at place event;
  ReportsAll = λ x made reported. reported ≡ each_reported (length x) made;
  held_after = λ x bytes. refl;
  none_reported = λ x. refl;
  one_reported = fed_more;
}

-- hearing bytes in two chunks is the same as hearing them in one
abbrev pub InChunks : Hearer → Type 0
InChunks K =
    (x : K.S) (bytes more : List ℕ) → K.after (K.after x bytes) more ≡ K.after x (bytes ++ more)

pub fed_in_chunks : UnfinishedAppend → InChunks decoder
fed_in_chunks still x bytes more = search (rules, append_assoc)

-- It has heard `used` bytes and reported `count` events.
pub record HasHeard (K : Hearer) (x now : K.S) (chunk : List ℕ) (used count : ℕ)
    (old reported : List DgtEvent)
    (body_len : ℕ) (old_body body : List ℕ) : Type 0 where
  pub read : HasRead (K.held x) chunk used count old reported body_len old_body body
  pub heard : now ≡ K.after x (take used chunk)
  pub reports : K.ReportsAll x (events_up_to (K.held x) chunk used) (take count reported)

module _ (K : Hearer) (later : EventsAppend) (x : K.S) (chunk : List ℕ) (old : List DgtEvent)
    (old_body : List ℕ) where
  -- Unfinished bytes complete no event.
  no_event : UnfinishedIsQuiet → unfinished_message (K.held x) ≡ K.held x
      → events (K.held x ++ []) ≡ []
  no_event quiet same = search (rules, append-nil)

  pub heard_nothing : UnfinishedIsQuiet → unfinished_message (K.held x) ≡ K.held x
      → K.after x [] ≡ x → HasHeard K x x chunk 0 0 old old 0 old_body old_body
  heard_nothing quiet same still = search (rules, no_event, quiet, nothing_read)

  heard_more : InChunks K → (before after : K.S) (i n : ℕ) → before ≡ K.after x (take i chunk)
      → after ≡ K.after before (take n (drop i chunk)) → after ≡ K.after x (take (i + n) chunk)
  heard_more in_chunks before after i n e f = search (rules, take-add)

  pub one_heard : UnfinishedIsPart → InChunks K
      → (before after : K.S) (used n count body_len : ℕ) (now : List DgtEvent)
      (body said new_body : List ℕ) (event : Option code.Event) (reported : DgtEvent)
      → HasHeard K x before chunk used count old now body_len old_body body
      → (used < length chunk) × (count < length now) × (body_len ≡ 0)
      → FirstEvent (K.held before) (drop used chunk) n (event_content_if_any event)
      → after ≡ K.after before (take n (drop used chunk)) → is_some event ≡ true
      → K.Reports before (used + n) (event_content_if_any event) reported
      → said ≡ body_said (event_content_if_any event) → new_body ≡ overwritten body said
      → HasHeard K x after chunk (used + n) (count + 1) old (set now count reported) (length said)
      old_body new_body
  one_heard part in_chunks before after used n count body_len now body said new_body None reported
      has on first hears some is_reported is_said is_body = absurd cc
  one_heard part in_chunks before after used n count body_len now body said new_body
      (Some e) reported has on first hears some is_reported is_said is_body =
      let event : Event = event_content e in
      let held : K.held before ≡ unfinished_message (K.held x ++ take used chunk) =
      ap K.held has.heard ∙ K.held_after x (take used chunk) in
      let first_here = rw held at first in
      let made = one_used later (K.held x) chunk used n event first_here in
      let place = place_in_chunk part (K.held x) chunk used n has.read.within in
      record {
        read = rw (is_body, is_said) (search (rules, one_read));
        heard = heard_more in_chunks before after used n has.heard hears;
        reports = search (rules, take_more_set);
      }

  pub none_heard : InChunks K
      → (before after : K.S) (used n count body_len : ℕ) (now : List DgtEvent) (body : List ℕ)
      (event : Option code.Event)
      → HasHeard K x before chunk used count old now body_len old_body body
      → (used < length chunk) × (count < length now) × (body_len ≡ 0)
      → FirstEvent (K.held before) (drop used chunk) n (event_content_if_any event)
      → after ≡ K.after before (take n (drop used chunk)) → is_some event ≡ false
      → HasHeard K x after chunk (used + n) count old now body_len old_body body
  none_heard in_chunks before after used n count body_len now body (Some e) has on first hears
      none = absurd cc
  none_heard in_chunks before after used n count body_len now body None has on first hears none =
      let held : K.held before ≡ unfinished_message (K.held x ++ take used chunk) =
      ap K.held has.heard ∙ K.held_after x (take used chunk) in
      let first_here = rw held at first in
      search (rules, none_read, heard_more, quiet_used)

  pub uses : (now : K.S) (used count body_len : ℕ) (reported : List DgtEvent) (body : List ℕ)
      → HasHeard K x now chunk used count old reported body_len old_body body
      → ((used < length chunk) × (count < length reported) × (body_len ≡ 0) → IsTrue false)
      → UsesUpTo (K.held x) chunk (length old) used
  uses now used count body_len reported body has ended = search (rules, uses_up_to)

  pub uses_some : UnfinishedIsQuiet → unfinished_message (K.held x) ≡ K.held x → (used : ℕ)
      → UsesUpTo (K.held x) chunk (length old) used → 0 < length chunk → 0 < length old → 0 < used
  uses_some quiet same used = search (rules, progress, no_event)
