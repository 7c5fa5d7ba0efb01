use Rattle.{std.proofs.Common.{arith, length}, dgt_stored.proofs.Bodies.{one_list, read}}
use Rattle.dgt_stored.proofs.laws.bodies_are_read.Goals as goal

pub returns-clause-each : goal.returns-clause-each
returns-clause-each c = λ body. read (length body) body (omega arith)

pub returns-clause-once : goal.returns-clause-once
returns-clause-once c = one_list c.one_is_first.ensures
