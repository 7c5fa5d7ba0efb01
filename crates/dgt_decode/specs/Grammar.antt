-- The meaning of a board's bytes. A list of bytes is cut before each byte with a set top bit: the
-- part before the first cut is the lead, and the others are segments. Bytes of the lead are stray.
-- A segment begins with a header of three bytes, which contains the length of the message. Bytes of
-- the segment after its message are stray.
use Rattle.std.specs.Prelude.{ℕ, ◌+◌, ◌-◌, Bool, List, [], ◌∷◌, ◌++◌, length, take, drop, Option, Some, None, Result, Ok, Err, nat_lt, nat_le, slice_index, if◌then◌else◌}
use Rattle.dgt_message.specs.declared.viewing.BodyFault.{BodyFault}
use Rattle.dgt_message.specs.Content.{Content}
use Rattle.dgt_message.specs.Reading.{reading}
use Rattle.dgt_message.specs.Encoding.{total}

-- an event at a byte
pub data Event : Type 0 where
  Message : Content → Event  -- a whole message
  Refused : ℕ → BodyFault → Event  -- a whole message with this code, and a body with this fault
  Cut : ℕ → Event  -- the byte cuts off a message of which this many bytes were received
  BadLength : Event  -- a total less than the size of the header
  Stray : ℕ → Event  -- a byte that belongs to no message

-- an event, and the number of bytes up to and including its last one
pub record Placed : Type 0 where
  pub place : ℕ
  pub event : Event

abbrev pub at_place : ℕ → Event → Placed
at_place place event = record { place = place; event = event }

-- the events of bytes after n others: each is n places later
abbrev pub shifted : ℕ → List Placed → List Placed
shifted n [] = []
shifted n (x ∷ events) = at_place (n + x.place) x.event ∷ shifted n events

-- a Stray for each byte
abbrev pub strays : List ℕ → List Placed
strays [] = []
strays (b ∷ bytes) = at_place 1 (Stray b) ∷ shifted 1 (strays bytes)

-- ---- The cut

-- a byte with a set top bit begins a message
abbrev pub has_top_bit : ℕ → Bool
has_top_bit b = nat_le 128 b

-- the bytes before the first cut
abbrev pub lead : List ℕ → List ℕ
lead [] = []
lead (b ∷ bytes) = if has_top_bit b then [] else b ∷ lead bytes

-- the parts from each cut to the next
abbrev pub segments : List ℕ → List (List ℕ)
segments [] = []
segments (b ∷ bytes) =
    if has_top_bit b then (b ∷ lead bytes) ∷ segments bytes else segments bytes

-- ---- One segment

-- the length of the whole message, as the segment's header says it
abbrev pub announced_total : List ℕ → ℕ
announced_total segment = total (slice_index segment 1) (slice_index segment 2)

abbrev pub reading_event : ℕ → Result Content BodyFault → Event
reading_event code (Ok said) = Message said
reading_event code (Err fault) = Refused code fault

-- the event of the bytes of a whole message
abbrev pub message_event : List ℕ → Event
message_event bytes =
    reading_event (slice_index bytes 0 - 128) (reading (slice_index bytes 0 - 128) (drop 3 bytes))

-- the event of a segment's message, or none while the message is unfinished
unfoldable pub verdict : List ℕ → Option Placed
verdict segment =
    if nat_lt (length segment) 3 then None
    else if nat_lt (announced_total segment) 3 then Some (at_place 3 BadLength)
    else if nat_lt (length segment) (announced_total segment) then None
    else Some (at_place (announced_total segment)
    (message_event (take (announced_total segment) segment)))

-- the events of a segment with this verdict: each byte after its message is stray
abbrev pub segment_events : Option Placed → List ℕ → List Placed
segment_events None segment = []
segment_events (Some x) segment = x ∷ shifted x.place (strays (drop x.place segment))

-- the unfinished message of a segment with this verdict
abbrev pub unfinished_part : Option Placed → List ℕ → List ℕ
unfinished_part None segment = segment
unfinished_part (Some x) segment = []

-- the Cut at the first byte after unfinished bytes
abbrev pub cut_of : List ℕ → List Placed
cut_of [] = []
cut_of (b ∷ bytes) = at_place 1 (Cut (length (b ∷ bytes))) ∷ []

-- the Cut, if another segment follows
abbrev pub cut_before : List (List ℕ) → List ℕ → List Placed
cut_before [] unfinished = []
cut_before (next ∷ others) unfinished = cut_of unfinished

-- ---- All segments

abbrev pub segments_events : List (List ℕ) → List Placed
segments_events [] = []
segments_events (segment ∷ others) =
    segment_events (verdict segment) segment
    ++ shifted (length segment)
    (cut_before others (unfinished_part (verdict segment) segment) ++ segments_events others)

abbrev pub unfinished_segment : List (List ℕ) → List ℕ
unfinished_segment [] = []
unfinished_segment (segment ∷ []) = unfinished_part (verdict segment) segment
unfinished_segment (segment ∷ next ∷ others) = unfinished_segment (next ∷ others)

-- the events of a list of bytes, in order
unfoldable pub events : List ℕ → List Placed
events bytes =
    strays (lead bytes) ++ shifted (length (lead bytes)) (segments_events (segments bytes))

-- the bytes of the unfinished message at the end, if there is one
unfoldable pub unfinished_message : List ℕ → List ℕ
unfinished_message bytes = unfinished_segment (segments bytes)
