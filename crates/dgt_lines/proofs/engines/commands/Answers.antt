use Rattle.{std.proofs.Common.{rules}, dgt_lines.proofs.{Listed.{listed, listed_none}, Printed.{ran_with}}}
use Rattle.dgt_lines.proofs.engines.commands.Goals as goal

pub print_input-requires : goal.print_input-requires
print_input-requires g c = search (rules, listed_none)

pub returns-clause-output : goal.returns-clause-output
returns-clause-output g c =
    ran_with g.R.Source g.W.Sink _ _ _ _ c.args.limit _ _ _ (listed _) c.print_input.ensures.output
