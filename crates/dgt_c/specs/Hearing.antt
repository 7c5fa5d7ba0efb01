-- What C calls report of a chunk that a decoder or a host reads.
use Rattle.std.specs.Prelude.{◌≡◌, ◌↔◌, ℕ, List, Option, Bool, true, false, IsTrue}
use Rattle.dgt_decode.specs.Grammar.{Event}
use Rattle.dgt_decode.specs.Feeding.{FirstEvent}
use Rattle.dgt_host.specs.Host.{HostView, IsUnasked}
use Rattle.dgt_c.specs.Slices.{overwritten}
use Rattle.dgt_c.specs.Reported.{body_said, reported_at}
use Rattle.dgt_c.specs.declared.header.DgtEvent.{DgtEvent}

-- The report of a chunk: a struct, and a slice before and after.
pub record Reporting : Type 0 where
  pub event : DgtEvent
  pub old : List ℕ
  pub new : List ℕ

abbrev pub flag : Bool → ℕ
flag true = 1
flag false = 0

-- This event is reported with its place, and as much of its body was copied into the slice as fits.
abbrev pub ReportsEvent : ℕ → Option Event → Bool → Reporting → Type 0
ReportsEvent place event unasked reported =
    (reported.event ≡ record (reported_at place event) { unasked = flag unasked })
    × (reported.new ≡ overwritten reported.old (body_said event))

-- The first event of the chunk is reported, if there is one. Its place is the number of bytes of
-- the chunk that were used.
abbrev pub Feeds : List ℕ → List ℕ → ℕ → Reporting → Type 0
Feeds held chunk used reported =
    (event : Option Event) × FirstEvent held chunk used event
    × ReportsEvent used event false reported

-- the same, with whether the event is an unasked message
abbrev pub HearsReported : HostView → List ℕ → ℕ → Reporting → Type 0
HearsReported host chunk used reported =
    (event : Option Event) × (unasked : Bool) × FirstEvent host.unread chunk used event
    × (IsTrue unasked ↔ IsUnasked host.awaited event) × ReportsEvent used event unasked reported
