use Rattle.{std.proofs.Common.{None}, dgt_lines.proofs.{ChunkLemmas.{gathers_none, gathers_refused, gathers_some}, Pictured.{pictured_event, pictured_more}}}
use Rattle.dgt_lines.proofs.picture_chunks.PicturesPrinterPICTURES_ROOM.gather.Goals as goal

pub returns-in_err-hear_field-clause-output : goal.returns-in_err-hear_field-clause-output
returns-in_err-hear_field-clause-output g c = λ first bytes text printed counted.
    gathers_refused bytes _ text 5 _
    (pictured_event printed c.chunks_in_a_row.ensures.add c.unfinished_append.ensures _ _ _ counted
    _ c.in-Some.ensures.held _ c.in-Some.ensures.first _ c.in_err-hear_field.ensures.state)
    _ _ c.from_residual.ensures.1 c.in_err-hear_field.ensures.puts.output

pub returns-in-Some-clause-output : goal.returns-in-Some-clause-output
returns-in-Some-clause-output g c = λ first bytes text printed counted.
    gathers_some bytes _ text 5 _
    (pictured_event printed c.chunks_in_a_row.ensures.add c.unfinished_append.ensures _ _ _ counted
    _ c.in-Some.ensures.held _ c.in-Some.ensures.first _ c.in_ok-hear_field.ensures.state)
    c.in_ok-hear_field.ensures.puts.output c.in_ok-hear_field.ensures.puts.waits

pub returns-in_err-hear_found-clause-output : goal.returns-in_err-hear_found-clause-output
returns-in_err-hear_found-clause-output g c = λ first bytes text printed counted.
    gathers_refused bytes _ text c.advance-advanced.result.used _
    (pictured_event printed c.chunks_in_a_row.ensures.add c.unfinished_append.ensures _ _ _ counted
    _
    c.advance-advanced.ensures.held _ (rw c.in-Some-found.is at c.advance-advanced.ensures.first) _
    c.in_err-hear_found.ensures.state)
    _ _ c.from_residual-in_err-hear_found.ensures.1 c.in_err-hear_found.ensures.puts.output

pub returns-in_ok-hear_found-clause-output : goal.returns-in_ok-hear_found-clause-output
returns-in_ok-hear_found-clause-output g c = λ first bytes text printed counted.
    gathers_some bytes _ text c.advance-advanced.result.used _
    (pictured_event printed c.chunks_in_a_row.ensures.add c.unfinished_append.ensures _ _ _ counted
    _
    c.advance-advanced.ensures.held _ (rw c.in-Some-found.is at c.advance-advanced.ensures.first) _
    c.in_ok-hear_found.ensures.state) c.in_ok-hear_found.ensures.puts.output
    c.in_ok-hear_found.ensures.puts.waits

pub returns-in_default-found-clause-output : goal.returns-in_default-found-clause-output
returns-in_default-found-clause-output g c = λ first bytes text printed counted.
    gathers_none bytes _ text c.advance-advanced.result.used
    (pictured_more printed c.chunks_in_a_row.ensures.add c.unfinished_append.ensures _ _ _ counted _
    c.advance-advanced.ensures.held None
    (rw c.in_default-found.is at c.advance-advanced.ensures.first))
