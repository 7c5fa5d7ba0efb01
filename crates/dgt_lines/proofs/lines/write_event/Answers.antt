use Rattle.{std.proofs.Common.{rules}, dgt_lines.proofs.GatherLemmas.{gathered_out}}
use Rattle.dgt_lines.proofs.lines.write_event.Goals as goal

pub returns-in_err-put_event-clause-output : goal.returns-in_err-put_event-clause-output
returns-in_err-put_event-clause-output g c =
    search (rules, rw c.new-outgoing.ensures at c.in_err-put_event.ensures.output)

pub returns-clause-output : goal.returns-clause-output
returns-clause-output g c = search (rules, gathered_out)
