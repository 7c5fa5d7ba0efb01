use Rattle.{std.proofs.Common.{arith}, dgt_lines.proofs.{Logged.{logged, logged_none}, Printed.{ran_with}}}
use Rattle.dgt_lines.proofs.engines.log.Goals as goal

pub print_input-requires : goal.print_input-requires
print_input-requires g c = (omega arith, (logged_none _ c.new.ensures, c.new-outgoing.ensures))

pub returns-clause-output : goal.returns-clause-output
returns-clause-output g c =
    ran_with g.R.Source g.W.Sink _ _ _ _ c.args.limit _ _ _ (logged _) c.print_input.ensures.output
