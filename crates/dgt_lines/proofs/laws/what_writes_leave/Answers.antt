use Rattle.std.proofs.Common.{◌∙◌, rules}
use Rattle.dgt_lines.proofs.laws.what_writes_leave.Goals as goal

pub returns-clause-written : goal.returns-clause-written
returns-clause-written g c a b writes had = search rules

pub returns-clause-stands : goal.returns-clause-stands
returns-clause-stands g c a b writes stood = writes.kept ∙ stood

pub returns-clause-in_time : goal.returns-clause-in_time
returns-clause-in_time g c a b writes stood in_time = writes.in_time stood ∙ in_time

pub returns-clause-fault : goal.returns-clause-fault
returns-clause-fault g c a b fault stops = stops.0

pub returns-clause-refused : goal.returns-clause-refused
returns-clause-refused g c a b fault stops = stops.1.refused

pub returns-clause-stopped_in_time : goal.returns-clause-stopped_in_time
returns-clause-stopped_in_time g c a b fault stops stood in_time = stops.1.in_time stood ∙ in_time
