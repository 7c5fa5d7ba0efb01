use Rattle.{std.proofs.Common.{rules}, dgt_ask.proofs.AskLemmas.{beeps, begins_well, inside, parsed, said}}
use Rattle.dgt_ask.proofs.details.beep.Goals as goal

pub returns-in_err-first : goal.returns-in_err-first
returns-in_err-first c = search (rules, beeps, begins_well)

pub returns-then-first-eq43 : goal.returns-then-first-eq43
returns-then-first-eq43 c = search (rules, beeps, begins_well)

pub returns-then-word-gt1 : goal.returns-then-word-gt1
returns-then-word-gt1 c = search (rules, beeps, begins_well)

pub returns-in_err-ok : goal.returns-in_err-ok
returns-in_err-ok c = search (rules, beeps, parsed)

pub returns-clause-asks : goal.returns-clause-asks
returns-clause-asks c = search (rules, beeps, parsed, inside)

pub returns-clause-asked : goal.returns-clause-asked
returns-clause-asked c = search (rules, inside, said)
