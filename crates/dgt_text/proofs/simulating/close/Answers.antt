use Rattle.std.proofs.Common.{[], append-nil, rules}
use Rattle.dgt_text.proofs.simulating.close.Goals as goal

pub returns-in_err-end-clause-output : goal.returns-in_err-end-clause-output
returns-in_err-end-clause-output g c = search rules

pub returns-clause-output : goal.returns-clause-output
returns-clause-output g c =
    let closing = c.in_ok-end.ensures.output in
    let flushed = c.writes_in_a_row.ensures.writes _ _ _ _ [] _ closing.2 c.flush.ensures.output in
    (closing.0, closing.1, rw append-nil at flushed)
