-- The lines of events, of all bytes that were read.
use Rattle.{std.{proofs.Common.{◌≡◌, ◌+◌, List, ℕ, [], ◌++◌, Option, Some, Result, length, refl, sym, ◌∙◌, ap, append-nil, take, rules}, specs.List.{flat_map}}, dgt_decode.specs.Feeding.{FirstEvent}}
use Rattle.{dgt_decode.specs.{Feeding.{at_place_if_any}, Grammar.{Event, events, unfinished_message}, Laws.{UnfinishedAppend, ChunksAdd}}, dgt_lines.specs.Lines.{event_line, lines, lines_after}}
use Rattle.dgt_lines.specs.{Lines.{placed_line}, Monitoring.{IsMonitored}, Printing.{HasEventLines, HasPrintedEvents, IsPrinted}, declared.faults.RunFault.{RunFault}}
use Rattle.dgt_lines.proofs.{EventLemmas.{events_found, lines-append}, Printed.{stands_by}}

lines-none : lines [] ≡ []
unfolding events
lines-none = refl

pub heard_none : (kept : List ℕ) → kept ≡ [] → HasPrintedEvents kept [] []
heard_none kept e = record { said = sym lines-none; held = ap unfinished_message e }

module _ {kept bytes text : List ℕ} (h : HasPrintedEvents kept bytes text)
    (chunks : ChunksAdd) where
  module _ (still : UnfinishedAppend) (chunk : List ℕ) (n offset : ℕ)
      (counted : offset ≡ length bytes) (kept' : List ℕ)
      (held : unfinished_message kept'
      ≡ unfinished_message (unfinished_message kept ++ take n chunk)) where
    -- after a call of `advance`
    pub heard_more : (event : Option Event) → FirstEvent (unfinished_message kept) chunk n event
        → HasPrintedEvents kept' (bytes ++ take n chunk)
        (text ++ flat_map placed_line (at_place_if_any (offset + n) event))
    heard_more event found = search (rules, events_found, lines-append)

    -- one that found an event
    pub heard_event : (event : Event) → FirstEvent (unfinished_message kept) chunk n (Some event)
        → HasPrintedEvents kept' (bytes ++ take n chunk) (text ++ event_line (offset + n) event)
    heard_event event found = rw append-nil at (heard_more (Some event) found)

  -- whatever comes after
  pub heard_on : (more : List ℕ)
      → (others : List ℕ) × (last : List ℕ) × HasEventLines (bytes ++ more) (text ++ others) last
  heard_on more =
      let others = lines_after (unfinished_message bytes) (length bytes) more in
      (others, _, (ap (λ l. l ++ others) h.said ∙ sym (lines-append chunks bytes more), refl))

pub monitored : {A : Type 0} (r : Result A RunFault) (bytes out : List ℕ)
    → IsPrinted HasEventLines r bytes out → IsMonitored r bytes out
monitored r bytes out p = stands_by r p.text _ p.last _ out p.has.0 p.has.1 p.stands
