-- Reports of events, one event after another.
use Rattle.{std.proofs.{Common.{◌≡◌, ℕ, List, ◌++◌, length, rules}, lemmas.Grind.{flat_map-append, fold-append}}, dgt_decode.specs.{Grammar.{Placed, unfinished_message}, Laws.{ChunksAdd}}}
use Rattle.dgt_lines.specs.{Lines.{events_after}, Reports.{report_lines, reports, reports_at, state_after_event, state_after_events, state_from, text_from}}
use Rattle.dgt_lines.{specs.declared.doubts.PictureState.{PictureState}, proofs.PictureLemmas.{made_by-append}}

pub reports-append : (before : PictureState) (xs ys : List Placed)
    → reports before (xs ++ ys) ≡ reports before xs ++ reports (state_after_events before xs) ys
reports-append before xs ys = made_by-append state_after_event reports_at before xs ys

-- the lines of more events
pub report_lines-append : (before : PictureState) (xs ys : List Placed)
    → report_lines before (xs ++ ys)
    ≡ report_lines before xs ++ report_lines (state_after_events before xs) ys
report_lines-append before xs ys = search (rules, reports-append, flat_map-append)

-- ---- bytes, and a chunk after them

pub text_from-append : ChunksAdd → (before : PictureState) (bytes chunk : List ℕ)
    → text_from before (bytes ++ chunk) ≡ text_from before bytes ++ report_lines
    (state_from before bytes) (events_after (unfinished_message bytes) (length bytes) chunk)
text_from-append chunks before bytes chunk = search (rules, report_lines-append)

pub state_from-append : ChunksAdd → (before : PictureState) (bytes chunk : List ℕ)
    → state_from before (bytes ++ chunk) ≡ state_after_events (state_from before bytes)
    (events_after (unfinished_message bytes) (length bytes) chunk)
state_from-append chunks before bytes chunk = search (rules, fold-append)
