use Rattle.dgt_lines.proofs.{ChunkLemmas.{gathers_none, gathers_refused, gathers_some}, NamedLemmas.{named_event, named_part}}
use Rattle.dgt_lines.proofs.named_chunks.NamedPrinterLINES_ROOM.gather.Goals as goal

pub returns-in_err-put_found-clause-output : goal.returns-in_err-put_found-clause-output
returns-in_err-put_found-clause-output g c = λ first bytes text printed counted.
    let line = c.in_err-put_found.ensures.output in
    gathers_refused bytes _ text c.advance-advanced.result.used line.text
    (named_event printed c.chunks_in_a_row.ensures.add c.unfinished_append.ensures _ _ _ counted _
    c.advance-advanced.ensures.held _ line.text
    (rw c.in-Some.is at c.advance-advanced.ensures.first) line.is)
    _ _ c.from_residual.ensures.1 line.gathers

pub returns-in_ok-put_found-clause-output : goal.returns-in_ok-put_found-clause-output
returns-in_ok-put_found-clause-output g c = λ first bytes text printed counted.
    let line = c.in_ok-put_found.ensures.output in
    gathers_some bytes _ text c.advance-advanced.result.used line.text
    (named_event printed c.chunks_in_a_row.ensures.add c.unfinished_append.ensures _ _ _ counted _
    c.advance-advanced.ensures.held _ line.text
    (rw c.in-Some.is at c.advance-advanced.ensures.first) line.is)
    line.gathers (λ _. c.in_ok-put_found.ensures.waits)

pub returns-in_default-clause-output : goal.returns-in_default-clause-output
returns-in_default-clause-output g c = λ first bytes text printed counted.
    gathers_none bytes _ text c.advance-advanced.result.used
    (named_part printed c.chunks_in_a_row.ensures.add c.unfinished_append.ensures _ _ _ counted _
    c.advance-advanced.ensures.held (rw c.in_default.is at c.advance-advanced.ensures.first))
