use Rattle.{std.proofs.Common.{refl, rules}, dgt_lines.proofs.StoredLines.{puts_as, stops_as}}
use Rattle.dgt_lines.proofs.logs.put_first.Goals as goal

pub returns-clause-puts : goal.returns-clause-puts
returns-clause-puts g c = λ stored later first.
    let is = rw c.unwrap-stored.ensures at c.first.ensures in
    let same = c.one_is_first.ensures _ stored _ later _ first is.first in
    rw (same.0, ← is.used) (refl, puts_as _ _ c.in_ok-put_line.ensures)

pub returns-in_err-put_line-clause-puts : goal.returns-in_err-put_line-clause-puts
returns-in_err-put_line-clause-puts g c = λ stored later first.
    let is = rw c.unwrap-stored.ensures at c.first.ensures in
    let same = c.one_is_first.ensures _ stored _ later _ first is.first in
    rw (same.0, ← is.used)
    (search rules, stops_as _ _ c.from_residual.ensures.1 c.in_err-put_line.ensures)
