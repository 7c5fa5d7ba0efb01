-- What C calls report of a whole chunk that a decoder or a host reads.
use Rattle.std.specs.Prelude.{◌≡◌, ◌↔◌, ◌≤◌, ◌<◌, ◌-◌, ℕ, List, [], ◌∷◌, ◌++◌, length, map, take, Some, Bool, IsTrue}
use Rattle.std.specs.List.{flat_map}
use Rattle.dgt_values.specs.declared.kinds.Kind.{Kind}
use Rattle.dgt_decode.specs.Grammar.{Placed, events}
use Rattle.dgt_host.specs.Host.{HostView, IsUnasked, host_after_event}
use Rattle.dgt_c.specs.Hearing.{flag}
use Rattle.dgt_c.specs.Reported.{body_said, reported_at}
use Rattle.dgt_c.specs.declared.header.DgtEvent.{DgtEvent}

-- the events that the first `used` bytes of a chunk complete after an unfinished message
abbrev pub events_up_to : List ℕ → List ℕ → ℕ → List Placed
events_up_to held chunk used = events (held ++ take used chunk)

-- the bodies that these events carry unread, concatenated
abbrev pub bodies : List Placed → List ℕ
bodies made = flat_map (λ x. body_said (Some x.event)) made

-- These events leave room for one more in an array of this length, and none of them has a body.
abbrev pub GoesOn : ℕ → List Placed → Type 0
GoesOn capacity made = (length made < capacity) × (bodies made ≡ [])

-- `used` is the least number of the chunk's bytes with events that fill the array or have a body.
-- If there is none, the whole chunk is used.
pub record UsesUpTo (held chunk : List ℕ) (capacity used : ℕ) : Type 0 where
  pub within : used ≤ length chunk
  pub least : (k : ℕ) → k < used → GoesOn capacity (events_up_to held chunk k)
  pub ends : used < length chunk → ¬ (GoesOn capacity (events_up_to held chunk used))

-- The struct contains this event, and whether it is an unasked message. Its place is the number of
-- bytes of the chunk up to and including its last one. `before` bytes came before the chunk.
abbrev pub Reports : ℕ → List Kind → Placed → DgtEvent → Type 0
Reports before awaited x reported =
    (unasked : Bool) × (IsTrue unasked ↔ IsUnasked awaited (Some x.event))
    × (reported ≡ record (reported_at (x.place - before) (Some x.event)) { unasked = flag unasked })

-- the structs contain these events, each for the host that has heard those before it
abbrev pub ReportsEach : ℕ → HostView → List Placed → List DgtEvent → Type 0
ReportsEach before host [] [] = Unit {0}
ReportsEach before host (x ∷ made) (reported ∷ more) =
    Reports before host.awaited x reported
    × ReportsEach before (host_after_event host x.event) made more
ReportsEach before host _ _ = ⊥

-- the structs that contain these events for a decoder, with their places in the chunk
abbrev pub each_reported : ℕ → List Placed → List DgtEvent
each_reported before made = map (λ x. reported_at (x.place - before) (Some x.event)) made
