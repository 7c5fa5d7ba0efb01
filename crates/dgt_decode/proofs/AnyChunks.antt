-- Bytes in any chunks.
use Rattle.std.proofs.{Common.{◌≡◌, ℕ, ◌+◌, ◌≤◌, List, [], ◌∷◌, ◌++◌, length, take, sym, ap, ◌∙◌, append_assoc, arith, rules}, Math.Seq.{take-length}, lemmas.List.{append-nil}}
use Rattle.{std.proofs.lemmas.List.{append_cancel_left, length-append, length-take}, dgt_message.specs.{Content.{Content, IsMessage}, Encoding.{encoding}}, dgt_decode.specs.Feeding.{FirstEvent}}
use Rattle.dgt_decode.specs.{Feeding.{at_place_if_any}, Grammar.{Message, at_place, shifted, cut_of, events, unfinished_message}, Laws.{Call, AreCalls, used_bytes, events_in_chunks}}
use Rattle.dgt_decode.proofs.{Appending.{events-append}, Encoded.{AreRead, AreEncoded, encoding_is_read}, UnfinishedLemmas.{unfinished-append, length-unfinished}}

-- the meaning of the used bytes of a chunk, after all bytes before it
pub call_reported : (s : List ℕ) (call : Call)
    → FirstEvent (unfinished_message s) call.chunk call.used call.event
    → events (s ++ take call.used call.chunk)
    ≡ events s ++ at_place_if_any (length s + call.used) call.event
call_reported s call first = search (rules, length-unfinished, events-append, take-length)

-- by induction: each call continues where the one before it stopped
pub in_any_chunks : (s : List ℕ) (calls : List Call) → AreCalls (unfinished_message s) calls
    → events (s ++ used_bytes calls) ≡ events s ++ events_in_chunks (length s) calls
in_any_chunks s [] are = rw (append-nil s) (sym (append-nil (events s)))
in_any_chunks s (call ∷ calls) are =
    let run = take call.used call.chunk in
    let within : call.used ≤ length call.chunk = search rules in
    let count : length (s ++ run) ≡ length s + call.used =
    omega (arith, length-append s run, length-take call.used call.chunk) in
    let later : AreCalls (unfinished_message (s ++ run)) calls =
    rw (unfinished-append s run) are.1 in
    ap events (sym (append_assoc s run (used_bytes calls))) ∙ in_any_chunks (s ++ run) calls later
    ∙ rw (count, call_reported s call are.0) (search (rules, append_assoc))

-- the events reported in chunks are those of the whole list
pub encoding_in_chunks : AreRead → AreEncoded → (s : List ℕ) (said : Content) (calls : List Call)
    → IsMessage said → AreCalls (unfinished_message s) calls → used_bytes calls ≡ encoding said
    → events_in_chunks (length s) calls ≡ shifted (length s) (cut_of (unfinished_message s))
    ++ at_place (length s + length (encoding said)) (Message said) ∷ []
encoding_in_chunks reads encoded s said calls is are same =
    search (rules, append_cancel_left, in_any_chunks, encoding_is_read, append_assoc)
