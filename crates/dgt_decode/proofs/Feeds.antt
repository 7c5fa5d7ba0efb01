-- The first event of a chunk after the held bytes.
use Rattle.std.proofs.{Common.{◌≡◌, ℕ, ◌+◌, ◌-◌, ◌<◌, ◌≤◌, List, [], ◌∷◌, ◌++◌, length, take, drop, Option, Some, None, refl, sym, ◌∙◌, append_assoc, arith, rules}, Math.Seq.{take-add, take-length}}
use Rattle.{std.proofs.lemmas.List.{take-append-drop}, dgt_decode.{specs.{Feeding.{FirstEvent, at_place_if_any}, Grammar.{Event, Placed, at_place, events}}, proofs.Appending.{events-append}}}

-- an empty list has no first element
pub nil_left : (xs ys : List Placed) → xs ++ ys ≡ [] → xs ≡ []
nil_left [] ys e = refl
nil_left (x ∷ xs) ys e = absurd cc

-- bytes without an event have none at their front
pub quiet-prefix : (s p : List ℕ) → events (s ++ p) ≡ [] → events s ≡ []
quiet-prefix s p e = nil_left (events s) _ (sym (events-append s p) ∙ e)

-- if a prefix of a chunk completes no event, no shorter one does
pub quiet-shorter : (held chunk : List ℕ) (k n : ℕ) → k ≤ n → events (held ++ take n chunk) ≡ []
    → events (held ++ take k chunk) ≡ []
quiet-shorter held chunk k n h e =
    let whole : k + (n - k) ≡ n = omega arith in
    search (rules, quiet-prefix, take-add, append_assoc)

-- a chunk without an event has none at its front
pub quiet-chunk : (held chunk : List ℕ) (k : ℕ) → events (held ++ chunk) ≡ []
    → events (held ++ take k chunk) ≡ []
quiet-chunk held chunk k e = quiet-prefix (held ++ take k chunk) (drop k chunk)
    (rw (append_assoc held (take k chunk) (drop k chunk), take-append-drop k chunk) e)

-- The byte after bytes without an event makes one.
pub FirstEvent-some : (held chunk : List ℕ) (before used : ℕ) (event : Event) → used ≡ before + 1
    → used ≤ length chunk → events (held ++ take before chunk) ≡ []
    → events (held ++ take used chunk) ≡ at_place (length held + used) event ∷ []
    → FirstEvent held chunk used (Some event)
FirstEvent-some held chunk before used event next within quiet now = search (rules, quiet-shorter)

-- A run of which only the last byte may make an event has this first event, if any.
pub first_of_run : (held run : List ℕ) (event : Option Event) → 0 < length run
    → events (held ++ take (length run - 1) run) ≡ []
    → events (held ++ run) ≡ at_place_if_any (length held + length run) event
    → FirstEvent held run (length run) event
first_of_run held run None some quiet reported = (refl, reported)
first_of_run held run (Some event) some quiet reported =
    FirstEvent-some held run (length run - 1) (length run) event (omega (arith, some)) (omega arith)
    quiet (rw (take-length run) reported)

-- a chunk has one result
pub one_first_event : (held chunk : List ℕ) (j k : ℕ) (x y : Option Event)
    → FirstEvent held chunk j x → FirstEvent held chunk k y → (j ≡ k) × (x ≡ y)
one_first_event held chunk j k x y a b = search (rules, quiet-chunk)
