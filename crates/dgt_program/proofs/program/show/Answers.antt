use Rattle.{std.proofs.Common.{rules}, dgt_program.proofs.TaskLemmas.{shown}}
use Rattle.dgt_program.proofs.program.show.Goals as goal

pub returns : goal.returns
returns g c = search (rules, shown)
