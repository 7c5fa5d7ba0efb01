-- The lines of `picture`, with and without doubts and the clock, for all bytes that were read.
use Rattle.{std.{proofs.Common.{◌≡◌, ◌+◌, List, ℕ, [], ◌++◌, Option, Some, Result, refl, sym, ◌∙◌, ap, append-nil, length, take, rules}, specs.List.{flat_map}}, dgt_decode.specs.Feeding.{FirstEvent}}
use Rattle.{dgt_decode.specs.{Feeding.{at_place_if_any}, Grammar.{Event, events, unfinished_message}, Laws.{UnfinishedAppend, ChunksAdd}}, dgt_lines.specs.{Lines.{events_after}, Picturing.{HasText}}}
use Rattle.dgt_lines.specs.{Printing.{HasPrintedReports, HasReportLines, IsPrinted}, Reports.{report_line, report_lines, reports_at, state_after_event, state_after_events, state_from, text_from}}
use Rattle.dgt_lines.{specs.declared.{doubts.PictureState.{PictureState}, faults.RunFault.{RunFault}}, proofs.{EventLemmas.{events_found}, ReportLemmas.{state_from-append, text_from-append}}}

text_none : (first : PictureState) → text_from first [] ≡ []
unfolding events
text_none first = refl

state_none : (first : PictureState) → state_from first [] ≡ first
unfolding events
state_none first = refl

pub pictured_none : (first : PictureState) → HasPrintedReports first [] first [] []
pictured_none first =
    record { said = sym (text_none first); after = sym (state_none first); held = refl }

module _ {first state : PictureState} {kept bytes text : List ℕ}
    (h : HasPrintedReports first kept state bytes text)
    (chunks : ChunksAdd) where
  module _ (still : UnfinishedAppend) (chunk : List ℕ) (n offset : ℕ)
      (counted : offset ≡ length bytes) (kept' : List ℕ)
      (held : unfinished_message kept'
      ≡ unfinished_message (unfinished_message kept ++ take n chunk)) where
    -- after a call of `advance`
    pub pictured_more : (event : Option Event) → FirstEvent (unfinished_message kept) chunk n event
        → HasPrintedReports first kept'
        (state_after_events state (at_place_if_any (offset + n) event)) (bytes ++ take n chunk)
        (text ++ report_lines state (at_place_if_any (offset + n) event))
    pictured_more event found = search (rules, events_found, text_from-append, state_from-append)

    -- one that found an event
    pub pictured_event : (event : Event) → FirstEvent (unfinished_message kept) chunk n (Some event)
        → (after : PictureState) → after ≡ state_after_event state event
        → HasPrintedReports first kept' after (bytes ++ take n chunk)
        (text ++ flat_map report_line (reports_at (offset + n) event state))
    pictured_event event found after heard =
        rw (heard, ← append-nil (reports_at (offset + n) event state))
        (pictured_more (Some event) found)

  -- whatever comes after
  pub pictured_on : (more : List ℕ) → (others : List ℕ) × (last : List ℕ)
      × HasReportLines first (bytes ++ more) (text ++ others) last
  pictured_on more =
      let others =
      report_lines (state_from first bytes)
      (events_after (unfinished_message bytes) (length bytes) more) in (
        others,
        [],
        (ap (λ l. l ++ others) h.said ∙ sym (text_from-append chunks first bytes more), refl),
      )

pub reported : {A : Type 0} (r : Result A RunFault) (first : PictureState) (bytes out : List ℕ)
    → IsPrinted (HasReportLines first) r bytes out → HasText (text_from first) r bytes out
reported r first bytes out p = search rules
