use Rattle.dgt_command.proofs.{Equal.{equal_clocks}, EqualCommands.{equal_commands, equal_events, equal_fed}}
use Rattle.dgt_command.proofs.laws.equal_is_same.Goals as goal

pub returns-clause-clock : goal.returns-clause-clock
returns-clause-clock c = equal_clocks

pub returns-clause-command : goal.returns-clause-command
returns-clause-command c = equal_commands

pub returns-clause-event : goal.returns-clause-event
returns-clause-event c = equal_events

pub returns-clause-fed : goal.returns-clause-fed
returns-clause-fed c = equal_fed
