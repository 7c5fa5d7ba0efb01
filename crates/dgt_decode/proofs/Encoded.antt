-- Messages that are encoded one after another.
use Rattle.dgt_decode.{specs.Grammar.{at_place, Message, shifted, message_event, cut_of, events, unfinished_message}, proofs.UnfinishedLemmas.{events-of_unfinished, unfinished-of_unfinished}}
use Rattle.dgt_decode.{proofs.UnfinishedLemmas.{events-alone, nothing, unfinished-append}, specs.{Feeding.{IsWholeMessage}, Laws.{Sent, sent_bytes, arrivals, EncodingIsRead}}}
use Rattle.{dgt_decode.proofs.{Appending.{events-append}, Anew.{begins_anew}, Wholes.{IsAlone-whole, verdict-of_whole, whole_unfinished}}, std.proofs.Common.{◌≡◌, ℕ, ◌-◌, List, [], ◌∷◌, ◌++◌, length}}
use Rattle.{std.{proofs.{Common.{drop, Ok, refl, ◌∙◌, append_assoc, arith, rules}, Math.Seq.{drop-length}}, specs.{List.{AllByRecursion}, Prelude.{slice_index}}}, dgt_message.specs.Content.{Content}}
use Rattle.dgt_message.specs.{Content.{IsMessage}, Encoding.{Encodes, encoding}, Reading.{reading}}

-- ---- Bytes that are read as messages

-- the bytes of a message are read as this message
abbrev pub AreRead : Type 0
AreRead = (said : Content) (bytes : List ℕ) → Encodes said bytes
    → reading (slice_index bytes 0 - 128) (drop 3 bytes) ≡ Ok said

-- the output of `encode` for a message encodes it
abbrev pub AreEncoded : Type 0
AreEncoded = (said : Content) → IsMessage said → Encodes said (encoding said)

-- the bytes of one message, which complete it
record IsRead (m : Sent) : Type 0 where
  whole : IsWholeMessage m.bytes
  reports : message_event m.bytes ≡ Message m.said

-- a message that is encoded is read
is_read : AreRead → (m : Sent) → Encodes m.said m.bytes → IsRead m
is_read reads m h = search (rules, reads m.said m.bytes)

-- messages that are encoded are read
are_read : AreRead → (ms : List Sent) → AllByRecursion (λ m. Encodes m.said m.bytes) ms
    → AllByRecursion IsRead ms
are_read reads [] h = tt
are_read reads (m ∷ ms) h = (is_read reads m h.0, are_read reads ms h.1)

-- ---- After nothing

-- a message is the only event of its bytes
event_read : (m : Sent) → IsRead m
    → events m.bytes ≡ at_place (length m.bytes) (Message m.said) ∷ []
event_read m h = events-alone m.bytes (IsAlone-whole m.bytes h.whole)
    ∙ rw (verdict-of_whole m.bytes h.whole, drop-length m.bytes, h.reports) refl

-- messages in a row are the events of their bytes, which leave nothing unfinished
read_in_a_row : (ms : List Sent) → AllByRecursion IsRead ms
    → (events (sent_bytes ms) ≡ arrivals ms) × (unfinished_message (sent_bytes ms) ≡ [])
read_in_a_row [] h = (events-of_unfinished [] nothing, unfinished-of_unfinished [] nothing)
read_in_a_row (m ∷ ms) h =
    let none = whole_unfinished m.bytes h.0.whole in
    let now = event_read m h.0 in
    let more = read_in_a_row ms h.1 in
    search (rules, events-append, unfinished-append)

-- ---- After any bytes

-- a message starts over, whatever was received before
message_anew : (s g p : List ℕ) → IsWholeMessage g
    → (events (s ++ (g ++ p))
    ≡ events s ++ shifted (length s) (cut_of (unfinished_message s) ++ events (g ++ p)))
    × (unfinished_message (s ++ (g ++ p)) ≡ unfinished_message (g ++ p))
message_anew s [] p w = absurd (omega (arith, w.long))
message_anew s (b ∷ g) p w = begins_anew s (g ++ p) b w.first

-- messages that are encoded are events, which leave nothing unfinished
pub recovery : AreRead → (s : List ℕ) (m : Sent) (more : List Sent)
    → AllByRecursion (λ m. Encodes m.said m.bytes) (m ∷ more)
    → (events (s ++ sent_bytes (m ∷ more))
    ≡ events s ++ shifted (length s) (cut_of (unfinished_message s)) ++ shifted (length s)
    (arrivals (m ∷ more))) × (unfinished_message (s ++ sent_bytes (m ∷ more)) ≡ [])
recovery reads s m more h =
    let read = are_read reads (m ∷ more) h in
    let row = read_in_a_row (m ∷ more) read in
    let anew = message_anew s m.bytes (sent_bytes more) read.0.whole in
    search (rules, append_assoc)

-- one message, as it is written
pub encoding_is_read : AreRead → AreEncoded → EncodingIsRead
encoding_is_read reads encoded s said is =
    let m : Sent = record { said = said; bytes = encoding said } in
    let one = recovery reads s m [] (encoded said is, tt) in
    search rules
