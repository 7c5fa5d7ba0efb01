-- The lines of stored events, for all bytes that were read.
use Rattle.{std.proofs.Common.{◌≡◌, ◌+◌, ◌-◌, List, ℕ, [], ◌∷◌, ◌++◌, Some, Option, Result, refl, sym, ◌∙◌, ap, append_assoc, append-nil, length, take, rules}, dgt_stored.specs.Stored.{Says}}
use Rattle.{dgt_stored.specs.Stored.{StoredContent}, dgt_decode.specs.{Feeding.{FirstEvent, at_place_if_any}, Grammar.{Event, Placed, at_place, events, unfinished_message}, Laws.{UnfinishedAppend}}}
use Rattle.{dgt_decode.specs.Laws.{ChunksAdd}, dgt_lines.specs.{Lines.{events_after}, Logging.{IsLogged}, Logs.{HasLog, log_body, stored_lines}, Printing.{HasLogLines, HasPrintedLog, IsPrinted}}}
use Rattle.dgt_lines.{specs.declared.faults.RunFault.{RunFault}, proofs.{EventLemmas.{events_found}}}

-- events in a row
log_append : (placed later : List Placed) (text others : List ℕ) → HasLog placed text
    → HasLog later others → HasLog (placed ++ later) (text ++ others)
log_append [] later text others has more = rw has more
log_append (x ∷ placed) later text others has more =
    search (rules, append_assoc, log_append placed later has.1 others has.3 more)

-- one event
log_event : (place : ℕ) (event : Event) (things : List StoredContent) → Says (log_body event) things
    → HasLog (at_place place event ∷ []) (stored_lines (place - length (log_body event)) things)
log_event place event things says = (things, [], says, refl, sym (append-nil _))

logs_none : HasLog (events []) []
unfolding events
logs_none = refl

pub logged_none : (kept : List ℕ) → kept ≡ [] → HasPrintedLog kept [] []
logged_none kept e = record { has = logs_none; held = ap unfinished_message e }

-- any events have some text
abbrev pub EachBody : Type 0
EachBody = (body : List ℕ) → (things : List StoredContent) × Says body things

pub some_log : EachBody → (placed : List Placed) → (text : List ℕ) × HasLog placed text
some_log each [] = ([], refl)
some_log each (x ∷ placed) =
    let things = each (log_body x.event) in
    let more = some_log each placed in
    (_, (things.0, more.0, things.1, more.1, refl))

-- and no other
pub one_log : ((body : List ℕ) (things others : List StoredContent) → Says body things
    → Says body others → things ≡ others) → (placed : List Placed) (text other : List ℕ)
    → HasLog placed text → HasLog placed other → text ≡ other
one_log once [] text other has also = has ∙ sym also
one_log once (x ∷ placed) text other has also =
    has.4 ∙ rw (once _ has.0 also.0 has.2 also.2, one_log once placed has.1 also.1 has.3 also.3)
    (sym also.4)

module _ {kept bytes text : List ℕ} (h : HasPrintedLog kept bytes text) (chunks : ChunksAdd) where
  module _ (still : UnfinishedAppend) (chunk : List ℕ) (n offset : ℕ)
      (counted : offset ≡ length bytes) (kept' : List ℕ)
      (held : unfinished_message kept'
      ≡ unfinished_message (unfinished_message kept ++ take n chunk)) where
    -- after a call of `advance` that found this, if these are the lines of it
    pub logged_more : (event : Option Event) → FirstEvent (unfinished_message kept) chunk n event
        → (more : List ℕ) → HasLog (at_place_if_any (offset + n) event) more
        → HasPrintedLog kept' (bytes ++ take n chunk) (text ++ more)
    logged_more event found more has =
        let same = events_found kept bytes chunk n h.held offset event found counted in
        search (rules, log_append)

    -- one that found an event
    pub logged_event : (event : Event) → FirstEvent (unfinished_message kept) chunk n (Some event)
        → (things : List StoredContent) → Says (log_body event) things
        → HasPrintedLog kept' (bytes ++ take n chunk)
        (text ++ stored_lines (offset + n - length (log_body event)) things)
    logged_event event found things says =
        logged_more (Some event) found _ (log_event (offset + n) event things says)

  -- whatever comes after
  pub logged_on : EachBody → (more : List ℕ)
      → (others : List ℕ) × (last : List ℕ) × HasLogLines (bytes ++ more) (text ++ others) last
  logged_on each more =
      let later = some_log each (events_after (unfinished_message bytes) (length bytes) more) in
      search (rules, log_append)

pub logged : {A : Type 0} (r : Result A RunFault) (bytes out : List ℕ)
    → IsPrinted HasLogLines r bytes out → IsLogged r bytes out
logged r bytes out p = search rules
