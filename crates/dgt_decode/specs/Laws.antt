-- Terms of the grammar's laws, and the laws that proofs of other crates use.
use Rattle.std.specs.Prelude.{◌≡◌, ℕ, ◌+◌, ◌-◌, ◌≤◌, List, [], ◌∷◌, ◌++◌, length, take, Option}
use Rattle.std.specs.List.{AllByRecursion, flat_map, concat}
use Rattle.dgt_values.specs.Bytes.{AreSevenBit}
use Rattle.dgt_message.specs.Content.{Content, IsMessage}
use Rattle.dgt_message.specs.Encoding.{encoding}
use Rattle.dgt_decode.specs.Grammar.{Message, Event, Placed, at_place, shifted, cut_of, events, unfinished_message}
use Rattle.dgt_decode.specs.Feeding.{FirstEvent, at_place_if_any, chunk_events}

-- a byte with a set top bit, and seven-bit bytes after it
abbrev pub IsSegment : List ℕ → Type 0
IsSegment [] = ⊥
IsSegment (b ∷ bytes) = (128 ≤ b) × AreSevenBit bytes

-- these are a seven-bit prefix and segments, and together they are the list
pub record CutsInto (prefix : List ℕ) (parts : List (List ℕ)) (s : List ℕ) : Type 0 where
  pub prefix_is : AreSevenBit prefix
  pub parts_are : AllByRecursion IsSegment parts
  pub in_a_row : prefix ++ concat parts ≡ s

-- ---- More bytes

-- Later bytes change no event, and of the earlier bytes their events need only the unfinished
-- message.
abbrev pub EventsAppend : Type 0
EventsAppend = (s p : List ℕ) → events (s ++ p)
    ≡ events s ++ shifted (length s - length (unfinished_message s))
    (events (unfinished_message s ++ p))

-- What is unfinished at the end depends, of the earlier bytes, only on the unfinished message.
abbrev pub UnfinishedAppend : Type 0
UnfinishedAppend = (s p : List ℕ) →
    unfinished_message (s ++ p) ≡ unfinished_message (unfinished_message s ++ p)

-- An unfinished message is part of the bytes received.
abbrev pub UnfinishedIsPart : Type 0
UnfinishedIsPart = (s : List ℕ) → length (unfinished_message s) ≤ length s

-- If bytes complete no event, they are all held.
abbrev pub QuietHeld : Type 0
QuietHeld = (s : List ℕ) → events s ≡ [] → unfinished_message s ≡ s

-- After no bytes, events keep their places. Moving events by two lists of bytes moves them by both
-- lists in a row. Each event is moved by itself.
pub record PlacesAdd : Type 0 where
  pub none : (reported : List Placed) → shifted 0 reported ≡ reported
  pub twice : (m n : ℕ) (reported : List Placed) →
      shifted m (shifted n reported) ≡ shifted (m + n) reported
  pub in_a_row : (n : ℕ) (reported more : List Placed) →
      shifted n (reported ++ more) ≡ shifted n reported ++ shifted n more

-- An unfinished message completes no event, and is itself what it leaves unfinished. If no byte
-- follows it, there is no event, and it stays as it is.
pub record UnfinishedIsQuiet : Type 0 where
  pub no_event : (s : List ℕ) → events (unfinished_message s) ≡ []
  pub stays : (s : List ℕ) → unfinished_message (unfinished_message s) ≡ unfinished_message s
  pub no_bytes : (s : List ℕ) →
      (chunk_events (unfinished_message s) [] ≡ [])
      × (unfinished_message (unfinished_message s ++ []) ≡ unfinished_message s)

-- After any bytes, those of a chunk complete the events of the chunk. A chunk's events are those of
-- its prefix, and then those of the rest.
pub record ChunksAdd : Type 0 where
  pub behind : (s chunk : List ℕ) → events (s ++ chunk)
      ≡ events s ++ shifted (length s) (chunk_events (unfinished_message s) chunk)
  pub in_two : (s prefix rest : List ℕ) →
      chunk_events (unfinished_message s) (prefix ++ rest)
      ≡ chunk_events (unfinished_message s) prefix
      ++ shifted (length prefix) (chunk_events (unfinished_message (s ++ prefix)) rest)

-- A byte with a set top bit starts over, whatever was received before. Its only effect on that is
-- to cut off an unfinished message.
abbrev pub BeginsAnew : Type 0
BeginsAnew = (s p : List ℕ) (b : ℕ) → 128 ≤ b →
    (events (s ++ b ∷ p)
    ≡ events s ++ shifted (length s) (cut_of (unfinished_message s) ++ events (b ∷ p)))
    × (unfinished_message (s ++ b ∷ p) ≡ unfinished_message (b ∷ p))

-- ---- Messages in a row

-- a message, and bytes that encode it
pub record Sent : Type 0 where
  pub said : Content
  pub bytes : List ℕ

abbrev pub sent_bytes : List Sent → List ℕ
sent_bytes messages = flat_map (λ m. m.bytes) messages

-- each message, at the end of its bytes
abbrev pub arrivals : List Sent → List Placed
arrivals [] = []
arrivals (m ∷ more) =
    at_place (length m.bytes) (Message m.said) ∷ shifted (length m.bytes) (arrivals more)

-- What `encode` writes of a message, after any bytes, completes this message at its last byte, and
-- leaves nothing unfinished.
abbrev pub EncodingIsRead : Type 0
EncodingIsRead = (s : List ℕ) (said : Content) → IsMessage said →
    (events (s ++ encoding said)
    ≡ events s ++ shifted (length s) (cut_of (unfinished_message s))
    ++ at_place (length s + length (encoding said)) (Message said) ∷ [])
    × (unfinished_message (s ++ encoding said) ≡ [])

-- ---- In chunks

-- a chunk that a reader is fed, and the result: how many bytes it used, and the event
pub record Call : Type 0 where
  pub chunk : List ℕ
  pub used : ℕ
  pub event : Option Event

-- the bytes that these calls used, concatenated
abbrev pub used_bytes : List Call → List ℕ
used_bytes calls = flat_map (λ call. take call.used call.chunk) calls

-- These are consecutive calls of a reader that at first holds this.
abbrev pub AreCalls : List ℕ → List Call → Type 0
AreCalls held [] = Unit {0}
AreCalls held (call ∷ calls) =
    FirstEvent held call.chunk call.used call.event
    × AreCalls (unfinished_message (held ++ take call.used call.chunk)) calls

-- the events that these calls report of a reader that has read n bytes before
abbrev pub events_in_chunks : ℕ → List Call → List Placed
events_in_chunks n [] = []
events_in_chunks n (call ∷ calls) =
    at_place_if_any (n + call.used) call.event ++ events_in_chunks (n + call.used) calls

-- the events of consecutive chunks after n bytes, of which these are an unfinished message
abbrev pub events_of_chunks : ℕ → List ℕ → List (List ℕ) → List Placed
events_of_chunks n held [] = []
events_of_chunks n held (chunk ∷ more) =
    shifted n (chunk_events held chunk)
    ++ events_of_chunks (n + length chunk) (unfinished_message (held ++ chunk)) more
