use Rattle.dgt_message.proofs.Equal.{equal_absences, equal_clocks, equal_messages}
use Rattle.dgt_message.proofs.laws.equal_is_same.Goals as goal

pub returns-clause-no_clock : goal.returns-clause-no_clock
returns-clause-no_clock c = equal_absences

pub returns-clause-clock : goal.returns-clause-clock
returns-clause-clock c = equal_clocks

pub returns-clause-message : goal.returns-clause-message
returns-clause-message c = equal_messages
