use Rattle.{std.proofs.Common.{rules}, dgt_lines.proofs.GatherLemmas.{puts_none}}
use Rattle.dgt_lines.proofs.picture_chunks.hear_event.Goals as goal

pub returns-in-Nothing-clause-puts : goal.returns-in-Nothing-clause-puts
returns-in-Nothing-clause-puts g c = search (rules, puts_none)

pub returns-in-Some-Refused-default-BadReading-clause-puts :
    goal.returns-in-Some-Refused-default-BadReading-clause-puts
returns-in-Some-Refused-default-BadReading-clause-puts g c = search (rules, puts_none)
