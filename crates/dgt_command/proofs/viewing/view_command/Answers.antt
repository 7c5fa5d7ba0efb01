use Rattle.{std.proofs.Common.{rules}, dgt_command.proofs.ViewLemmas.{clock_view, forms}}
use Rattle.dgt_command.proofs.viewing.view_command.Goals as goal

pub returns-in-43-clause-some : goal.returns-in-43-clause-some
returns-in-43-clause-some c = search (rules, clock_view)

pub returns-in_default-clause-none : goal.returns-in_default-clause-none
returns-in_default-clause-none c = search (rules, forms)
