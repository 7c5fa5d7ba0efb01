use Rattle.dgt_program.proofs.BackLemmas.{asked_back, asked_in_order}
use Rattle.dgt_program.proofs.laws.commands_are_asked_back.Goals as goal

pub returns-clause-each : goal.returns-clause-each
returns-clause-each c = asked_back

pub returns-clause-in_order : goal.returns-clause-in_order
returns-clause-in_order c = asked_in_order
