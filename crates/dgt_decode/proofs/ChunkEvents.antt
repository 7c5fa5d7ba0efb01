-- The events of whole chunks, and their listeners.
use Rattle.std.proofs.{Math.Seq.{take-length, drop-length, take-add}, Common.{◌≡◌, ℕ, ◌+◌, ◌-◌, ◌<◌, ◌≤◌, List, [], ◌∷◌, ◌++◌, length, map, take, drop, Option, Some, None, refl, sym, ap, ◌∙◌}}
use Rattle.std.{proofs.{Common.{append_assoc, arith, inl, inr, rules}, lemmas.{Bool.{cases_lt}, Grind.{common_steps}, List.{append-nil, length-append, length-drop}}}, specs.List.{FoldsTo, concat}}
use Rattle.dgt_decode.{proofs.Steps.{IsUnfinished-held, IsHeld, IsHeld-unfinished, first-begins, first-stray, next-begins, next-seven, verdict-new}, specs.Feeding.{FirstEvent, at_place_if_any}}
use Rattle.dgt_decode.specs.{Feeding.{chunk_events}, Grammar.{Event, Placed, at_place, events, shifted, unfinished_message, segment_events, verdict}, Laws.{UnfinishedIsQuiet, ChunksAdd}}
use Rattle.dgt_decode.{specs.Laws.{events_of_chunks}, proofs.{Appending.{events-append}, Places.{shifted-append, shifted-shifted}, UnfinishedLemmas.{IsUnfinished, nothing, waiting}}}
use Rattle.dgt_decode.proofs.UnfinishedLemmas.{IsUnfinished-unfinished, events-of_unfinished, length-unfinished, unfinished-append}

-- The byte after n others completes these: one event at most.
pub record IsBehind (n : ℕ) (reported : List Placed) : Type 0 where
  pub event : Option Event
  pub is : reported ≡ shifted n (at_place_if_any 1 event)

-- an event at the next byte
behind_one : (n m : ℕ) (event : Event) → m ≡ n + 1 → IsBehind n (at_place m event ∷ [])
behind_one n m event e = record { event = Some event; is = ap (λ (k : ℕ). at_place k event ∷ []) e }

behind_none : (n : ℕ) → IsBehind n []
behind_none n = record { event = None; is = refl }

-- the event of a byte after an unfinished message
behind_verdict : (h : List ℕ) (b : ℕ) → verdict h ≡ None → (v : Option Placed)
    → verdict (h ++ b ∷ []) ≡ v → IsBehind (length h) (segment_events v (h ++ b ∷ []))
behind_verdict h b e None f = behind_none (length h)
behind_verdict h b e (Some x) f =
    let place = verdict-new h b x e f in
    rw (place, drop-length (h ++ b ∷ []))
    (behind_one (length h) (length (h ++ b ∷ [])) x.event (length-append h (b ∷ [])))

behind_byte_held : (held : List ℕ) (b : ℕ) → IsHeld held → IsUnfinished held
    → IsBehind (length held) (events (held ++ b ∷ []))
behind_byte_held held b h nothing = search (rules, first-stray, first-begins, behind_one)
behind_byte_held held b h (waiting [] alone e) = absurd (let no = alone.one in cc)
behind_byte_held held b h (waiting (x ∷ g) alone e) =
    let some : 0 < length (x ∷ g) = omega arith in
    elim (cases_lt b 128) [
      | inl seven ↦ rw (next-seven (x ∷ g) (b ∷ []) h some (seven, tt)).reported
          (behind_verdict (x ∷ g) b e (verdict ((x ∷ g) ++ b ∷ [])) refl)
      | inr top ↦ rw (next-begins (x ∷ g) b h some top).reported
          (behind_one (length (x ∷ g)) (length (x ∷ g) + 1) _ refl)
    ]

-- the byte after an unfinished message
pub behind_byte : (s : List ℕ) (b : ℕ)
    → IsBehind (length (unfinished_message s)) (events (unfinished_message s ++ b ∷ []))
behind_byte s b =
    behind_byte_held (unfinished_message s) b (IsHeld-unfinished s) (IsUnfinished-unfinished s)

-- No byte completes two events.
pub one_event : (s : List ℕ) (b : ℕ) → length (events (unfinished_message s ++ b ∷ [])) ≤ 1
one_event s b = rw (behind_byte s b).is (go (behind_byte s b).event)
  where
    go : (event : Option Event)
        → length (shifted (length (unfinished_message s)) (at_place_if_any 1 event)) ≤ 1
    go event = search rules

-- the events of more bytes after any
record AreBehind (s p : List ℕ) : Type 0 where
  early : List Placed
  is : events (s ++ p) ≡ events s ++ shifted (length s) early

-- one byte
one_behind : (s : List ℕ) (b : ℕ) → AreBehind s (b ∷ [])
one_behind s b =
    let byte = behind_byte s b in
    record {
      early = at_place_if_any 1 byte.event;
      is = search (rules, length-unfinished, events-append);
    }

-- any bytes, one after another
all_behind : (s p : List ℕ) → AreBehind s p
all_behind s [] = record { early = []; is = search rules }
all_behind s (b ∷ p) =
    let one = one_behind s b in
    let later = all_behind (s ++ b ∷ []) p in
    let count : length (s ++ b ∷ []) ≡ length s + 1 = length-append s (b ∷ []) in
    record {
      early = one.early ++ shifted 1 later.early;
      is = search (rules, append_assoc, shifted-append, shifted-shifted);
    }

-- ---- the events of a chunk

-- each event at its place in the chunk
abbrev nearer : ℕ → List Placed → List Placed
nearer n reported = map (λ x. at_place (x.place - n) x.event) reported

nearer-behind : (n : ℕ) (reported : List Placed) → nearer n (shifted n reported) ≡ reported
nearer-behind n [] = refl
nearer-behind n (x ∷ reported) = search (rules, nearer-behind n reported)

nearer-append : (n : ℕ) (xs ys : List Placed) → nearer n (xs ++ ys) ≡ nearer n xs ++ nearer n ys
nearer-append n xs ys = grind (arith, common_steps)

-- they are the events after the held bytes
held_behind : (s p : List ℕ) → events (unfinished_message s ++ p)
    ≡ shifted (length (unfinished_message s)) (chunk_events (unfinished_message s) p)
held_behind s p =
    let o = unfinished_message s in
    let all = all_behind o p in
    let quiet = events-of_unfinished o (IsUnfinished-unfinished s) in
    let is : events (o ++ p) ≡ shifted (length o) all.early =
    all.is ∙ ap (λ (xs : List Placed). xs ++ shifted (length o) all.early) quiet in
    is ∙ ap (shifted (length o))
    (sym (ap (nearer (length o)) is ∙ nearer-behind (length o) all.early))

-- the events of a chunk come after those of all bytes before it
pub behind : (s p : List ℕ) → events (s ++ p) ≡ events s ++ shifted (length s)
    (chunk_events (unfinished_message s) p)
behind s p = search (rules, length-unfinished, events-append, held_behind, shifted-shifted)

-- in two parts, after the held bytes
held_in_two : (o p q : List ℕ) → chunk_events o (p ++ q)
    ≡ chunk_events o p ++ shifted (length p) (chunk_events (unfinished_message (o ++ p)) q)
held_in_two o p q =
    let more = chunk_events (unfinished_message (o ++ p)) q in
    ap (λ (xs : List ℕ). nearer (length o) (events xs)) (sym (append_assoc o p q))
    ∙ ap (nearer (length o)) (behind (o ++ p) q)
    ∙ nearer-append (length o) (events (o ++ p)) (shifted (length (o ++ p)) more)
    ∙ ap (λ (xs : List Placed). chunk_events o p ++ xs)
    (search (rules, length-append, shifted-shifted, nearer-behind))

pub pieces_add : ChunksAdd
pieces_add = search (rules, behind, held_in_two, unfinished-append)

-- any chunks
pub in_a_row : (s : List ℕ) (chunks : List (List ℕ))
    → events (s ++ concat chunks)
    ≡ events s ++ events_of_chunks (length s) (unfinished_message s) chunks
in_a_row s [] = rw (append-nil s) (sym (append-nil (events s)))
in_a_row s (chunk ∷ more) =
    let later = in_a_row (s ++ chunk) more in
    search (rules, append_assoc, length-append, behind, unfinished-append)

-- ---- nothing

-- no bytes after the held bytes
pub held_none : (o : List ℕ) → IsHeld o → chunk_events o [] ≡ []
held_none o h = search (rules, events-of_unfinished, IsUnfinished-held)

pub unfinished_is_quiet : UnfinishedIsQuiet
unfinished_is_quiet =
    search (rules, events-of_unfinished, IsUnfinished-unfinished, IsHeld-unfinished)

-- ---- a listener of calls

-- The first i bytes of a chunk have been fed, and each of their events was heard.
pub record HasHeard {L : Type 0} (hears : L → Placed → L → Type 0) (held chunk : List ℕ) (i : ℕ)
    (old new : L)
    (now : List ℕ) : Type 0 where
  pub within : i ≤ length chunk
  pub holds : now ≡ unfinished_message (held ++ take i chunk)
  pub reported : FoldsTo hears old (chunk_events held (take i chunk)) new

FoldsTo-one : {L : Type 0} (hears : L → Placed → L → Type 0) (a b c : L) (reported : List Placed)
    (x : Placed) → FoldsTo hears a reported b → hears b x c → FoldsTo hears a (reported ++ x ∷ []) c
FoldsTo-one hears a b c [] x p q = search rules
FoldsTo-one hears a b c (y ∷ reported) x p q =
    search (rules, FoldsTo-one hears p.0 b c reported x p.2 q)

-- the events of the bytes that a call uses
first_reported : (held chunk : List ℕ) (used : ℕ) (event : Option Event)
    → FirstEvent held chunk used event
    → chunk_events held (take used chunk) ≡ at_place_if_any used event
first_reported held chunk used event first = search (rules, take-length)

module _ {L : Type 0} (hears : L → Placed → L → Type 0) where
  -- nothing yet
  pub heard_none : (held chunk : List ℕ) (old : L) → IsHeld held
      → HasHeard hears held chunk 0 old old held
  heard_none held chunk old h = search (rules, held_none)

  -- the bytes that a call uses complete one more event
  next_reported : (held chunk : List ℕ) (i used : ℕ) (now : List ℕ) (event : Option Event)
      → i ≤ length chunk → now ≡ unfinished_message (held ++ take i chunk)
      → FirstEvent now (drop i chunk) used event
      → chunk_events held (take (i + used) chunk)
      ≡ chunk_events held (take i chunk) ++ at_place_if_any (i + used) event
  next_reported held chunk i used now event h e first =
      search (rules, take-add, held_in_two, first_reported)

  next_holds : (held chunk : List ℕ) (i used : ℕ) (now new : List ℕ)
      → now ≡ unfinished_message (held ++ take i chunk)
      → new ≡ unfinished_message (now ++ take used (drop i chunk))
      → new ≡ unfinished_message (held ++ take (i + used) chunk)
  next_holds held chunk i used now new e f =
      search (rules, take-add, append_assoc, unfinished-append)

  -- a call without an event
  pub heard_quiet : (held chunk : List ℕ) (i used : ℕ) (old now : L) (before new : List ℕ)
      → HasHeard hears held chunk i old now before → used ≤ length (drop i chunk)
      → FirstEvent before (drop i chunk) used None
      → new ≡ unfinished_message (before ++ take used (drop i chunk))
      → HasHeard hears held chunk (i + used) old now new
  heard_quiet held chunk i used old now before new heard fits first e =
      let next = next_reported held chunk i used before None heard.within heard.holds first in
      let holds = next_holds held chunk i used before new heard.holds e in
      search (rules, length-drop)

  -- a call with an event, which is heard
  pub heard_one : (held chunk : List ℕ) (i used : ℕ) (old now later : L) (before new : List ℕ)
      (event : Event) → HasHeard hears held chunk i old now before → used ≤ length (drop i chunk)
      → FirstEvent before (drop i chunk) used (Some event)
      → new ≡ unfinished_message (before ++ take used (drop i chunk))
      → hears now (at_place (i + used) event) later
      → HasHeard hears held chunk (i + used) old later new
  heard_one held chunk i used old now later before new event heard fits first e one =
      let next =
      next_reported held chunk i used before (Some event) heard.within heard.holds first in
      let holds = next_holds held chunk i used before new heard.holds e in
      search (rules, length-drop, FoldsTo-one)
