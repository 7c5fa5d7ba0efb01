-- The calls of a reader for any chunks: they exist, and there are no others.
use Rattle.std.proofs.{Common.{rules, ◌≡◌, ℕ, zero, suc, ◌<◌, List, [], ◌∷◌, ◌++◌, length, map, take, Option, Some, None, refl, ap, append_assoc, arith}, lemmas.List.{append-nil, length-append}}
use Rattle.dgt_decode.{specs.{Feeding.{FirstEvent, at_place_if_any}, Grammar.{Event, events, shifted, unfinished_message}, Laws.{Call, AreCalls}}, proofs.ChunkEvents.{behind_byte}}
use Rattle.dgt_decode.proofs.{ChunkEvents.{unfinished_is_quiet}, Division.{quiet_held}, Feeds.{FirstEvent-some, one_first_event}}

-- what a reader does with a chunk
record HasAnswer (held chunk : List ℕ) : Type 0 where
  used : ℕ
  event : Option Event
  first : FirstEvent held chunk used event

-- a byte without an event, and then the others
after_byte : (held : List ℕ) (b : ℕ) (chunk : List ℕ) (used : ℕ) (event : Option Event)
    → events held ≡ [] → FirstEvent (held ++ b ∷ []) chunk used event
    → FirstEvent held (b ∷ chunk) (suc used) event
after_byte held b chunk used None quiet first = search (rules, append_assoc)
after_byte held b chunk used (Some event) quiet first = (
  omega (arith, first.0),
  search (rules, append_assoc, length-append),
  early,
)
  where
    early : (k : ℕ) → k < suc used → events (held ++ take k (b ∷ chunk)) ≡ []
    early zero less = search rules
    early (suc k) less = search (rules, append_assoc)

-- each chunk has an answer
answered : (s chunk : List ℕ) → HasAnswer (unfinished_message s) chunk
answered s [] = record {
  used = 0;
  event = None;
  first = (refl, rw (append-nil (unfinished_message s)) (unfinished_is_quiet.no_event s));
}
answered s (b ∷ chunk) =
    let byte = behind_byte s b in
    go byte.event byte.is (answered (held ++ b ∷ []) chunk)
  where
    held : List ℕ
    held = unfinished_message s

    quiet : events (unfinished_message s) ≡ []
    quiet = unfinished_is_quiet.no_event s

    go : (event : Option Event)
        → events (unfinished_message s ++ b ∷ [])
        ≡ shifted (length (unfinished_message s)) (at_place_if_any 1 event)
        → HasAnswer (unfinished_message (unfinished_message s ++ b ∷ [])) chunk
        → HasAnswer (unfinished_message s) (b ∷ chunk)
    go (Some event) e later = record {
      used = 1;
      event = Some event;
      first = FirstEvent-some held (b ∷ chunk) 0 1 event refl (omega arith)
          (rw (append-nil held) quiet) e;
    }
    go None e later = record {
      used = suc later.used;
      event = later.event;
      first = after_byte held b chunk later.used later.event quiet
          (rw (← quiet_held (held ++ b ∷ []) e) later.first);
    }

-- a list of chunks has calls
pub some_calls : (s : List ℕ) (chunks : List (List ℕ))
    → (calls : List Call) × (map (λ call. call.chunk) calls ≡ chunks)
    × AreCalls (unfinished_message s) calls
some_calls s [] = ([], refl, tt)
some_calls s (chunk ∷ chunks) =
    let one = answered s chunk in
    let more = some_calls (unfinished_message s ++ take one.used chunk) chunks in
    let call : Call = record { chunk = chunk; used = one.used; event = one.event } in
    (call ∷ more.0, ap (λ (xs : List (List ℕ)). chunk ∷ xs) more.1, (one.first, more.2))

-- and no others
pub same_calls : (held : List ℕ) (first second : List Call) → AreCalls held first
    → AreCalls held second → map (λ call. call.chunk) first ≡ map (λ call. call.chunk) second
    → first ≡ second
same_calls held [] [] a b e = refl
same_calls held (x ∷ xs) (y ∷ ys) a b e =
    let chunk : x.chunk ≡ y.chunk = cc in
    let chunks : map (λ call. call.chunk) xs ≡ map (λ call. call.chunk) ys = cc in
    let answer =
    one_first_event held x.chunk x.used y.used x.event y.event a.0 (rw (← chunk) at b.0) in
    let after = unfinished_message (held ++ take x.used x.chunk) in
    let later : AreCalls after ys = rw (← chunk, ← answer.0) at b.1 in
    search (rules, same_calls after xs ys a.1 later chunks)
same_calls held _ _ a b e = absurd cc
