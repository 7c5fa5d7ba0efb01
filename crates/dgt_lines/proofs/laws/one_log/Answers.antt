use Rattle.dgt_lines.proofs.Logged.{one_log, some_log}
use Rattle.dgt_lines.proofs.laws.one_log.Goals as goal

pub returns-clause-each : goal.returns-clause-each
returns-clause-each c = some_log c.bodies_are_read.ensures.each

pub returns-clause-once : goal.returns-clause-once
returns-clause-once c = one_log c.bodies_are_read.ensures.once
