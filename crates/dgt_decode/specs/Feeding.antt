-- What a reader that holds an unfinished message does with a chunk: it uses the bytes up to and
-- including the first one that completes an event.
use Rattle.std.specs.Prelude.{◌≡◌, ℕ, ◌+◌, ◌<◌, ◌≤◌, List, [], ◌∷◌, ◌++◌, length, map, ◌-◌, drop, take, slice_index, option_map, Option, Some, None}
use Rattle.dgt_values.specs.Bytes.{number, AreSevenBit}
use Rattle.dgt_message.specs.Content.{content}
use Rattle.dgt_decode.specs.declared.decoder.Fed.{Fed}
use Rattle.dgt_decode.specs.declared.event.Event as code
use Rattle.dgt_decode.specs.declared.event.Event.TheVariants as code_events
use Rattle.dgt_decode.specs.declared.event.Found.{Found}
use Rattle.dgt_decode.specs.declared.event.Found.TheVariants as found
use Rattle.dgt_decode.specs.Grammar.{Event, Message, Refused, Cut, BadLength, Stray, Placed, announced_total, at_place, events, message_event}

-- `used` is the least number of the chunk's bytes that complete an event, and this is the event. If
-- there is none, the whole chunk is used.
abbrev pub FirstEvent : List ℕ → List ℕ → ℕ → Option Event → Type 0
FirstEvent held chunk used None = (used ≡ length chunk) × (events (held ++ chunk) ≡ [])
FirstEvent held chunk used (Some event) =
    (used ≤ length chunk)
    × (events (held ++ take used chunk) ≡ at_place (length held + used) event ∷ [])
    × ((k : ℕ) → k < used → events (held ++ take k chunk) ≡ [])

-- The events of a chunk after an unfinished message. The place of each is the number of bytes of
-- the chunk up to and including its last one.
abbrev pub chunk_events : List ℕ → List ℕ → List Placed
chunk_events held chunk =
    map (λ x. at_place (x.place - length held) x.event) (events (held ++ chunk))

-- an event that the code reports
abbrev pub event_content : code.Event → Event
event_content (code_events.Message message) = Message (content message)
event_content (code_events.Refused code fault) = Refused (number code) fault
event_content (code_events.Cut have) = Cut have
event_content code_events.BadLength = BadLength
event_content (code_events.Stray byte) = Stray byte

abbrev pub event_content_if_any : Option code.Event → Option Event
event_content_if_any event = option_map event_content event

-- an answer to a chunk
abbrev pub fed_content : Fed → ℕ × Option Event
fed_content fed = (fed.used, event_content_if_any fed.event)

-- what was found, if these bytes are kept
abbrev pub event_found_in : List ℕ → Found → Event
event_found_in kept found.Message = message_event kept
event_found_in kept (found.Cut have) = Cut have
event_found_in kept found.BadLength = BadLength
event_found_in kept (found.Stray byte) = Stray byte

-- the events of bytes of which only the last may complete one
abbrev pub at_place_if_any : ℕ → Option Event → List Placed
at_place_if_any place None = []
at_place_if_any place (Some event) = at_place place event ∷ []

-- exactly the bytes of one message
pub record IsWholeMessage (bytes : List ℕ) : Type 0 where
  pub first : 128 ≤ slice_index bytes 0
  pub later : AreSevenBit (drop 1 bytes)
  pub long : 3 ≤ length bytes
  pub whole : announced_total bytes ≡ length bytes
