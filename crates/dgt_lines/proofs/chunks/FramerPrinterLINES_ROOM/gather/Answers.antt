use Rattle.{std.proofs.Common.{None}, dgt_lines.proofs.{ChunkLemmas.{gathers_none, gathers_refused, gathers_some}, Heard.{heard_event, heard_more}}}
use Rattle.dgt_lines.proofs.chunks.FramerPrinterLINES_ROOM.gather.Goals as goal

pub returns-in_err-put_field-clause-output : goal.returns-in_err-put_field-clause-output
returns-in_err-put_field-clause-output g c = λ first bytes text printed counted.
    gathers_refused bytes _ text 5 _
    (heard_event printed c.chunks_in_a_row.ensures.add c.unfinished_append.ensures _ _ _ counted _
    c.in-Some.ensures.held _ c.in-Some.ensures.first)
    _ _ c.from_residual.ensures.1 c.in_err-put_field.ensures.output

pub returns-in-Some-clause-output : goal.returns-in-Some-clause-output
returns-in-Some-clause-output g c = λ first bytes text printed counted.
    gathers_some bytes _ text 5 _
    (heard_event printed c.chunks_in_a_row.ensures.add c.unfinished_append.ensures _ _ _ counted _
    c.in-Some.ensures.held _ c.in-Some.ensures.first)
    c.in_ok-put_field.ensures.output (λ _. c.in_ok-put_field.ensures.waits)

pub returns-in_err-put_found-clause-output : goal.returns-in_err-put_found-clause-output
returns-in_err-put_found-clause-output g c = λ first bytes text printed counted.
    gathers_refused bytes _ text c.advance-advanced.result.used _
    (heard_event printed c.chunks_in_a_row.ensures.add c.unfinished_append.ensures _ _ _ counted _
    c.advance-advanced.ensures.held _ (rw c.in-Some-found.is at c.advance-advanced.ensures.first))
    _ _ c.from_residual-in_err-put_found.ensures.1 c.in_err-put_found.ensures.output

pub returns-in_ok-put_found-clause-output : goal.returns-in_ok-put_found-clause-output
returns-in_ok-put_found-clause-output g c = λ first bytes text printed counted.
    gathers_some bytes _ text c.advance-advanced.result.used _
    (heard_event printed c.chunks_in_a_row.ensures.add c.unfinished_append.ensures _ _ _ counted _
    c.advance-advanced.ensures.held _ (rw c.in-Some-found.is at c.advance-advanced.ensures.first))
    c.in_ok-put_found.ensures.output (λ _. c.in_ok-put_found.ensures.waits)

pub returns-in_default-found-clause-output : goal.returns-in_default-found-clause-output
returns-in_default-found-clause-output g c = λ first bytes text printed counted.
    gathers_none bytes _ text c.advance-advanced.result.used
    (heard_more printed c.chunks_in_a_row.ensures.add c.unfinished_append.ensures _ _ _ counted _
    c.advance-advanced.ensures.held None
    (rw c.in_default-found.is at c.advance-advanced.ensures.first))
