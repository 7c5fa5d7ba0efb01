use Rattle.{std.proofs.Common.{arith}, dgt_lines.proofs.{Heard.{heard_none, monitored}, Printed.{ran_with}}}
use Rattle.dgt_lines.proofs.engines.monitor.Goals as goal

pub print_input-requires : goal.print_input-requires
print_input-requires g c = (omega arith, (heard_none _ c.new.ensures, c.new-outgoing.ensures))

pub returns-clause-output : goal.returns-clause-output
returns-clause-output g c =
    ran_with g.R.Source g.W.Sink _ _ _ _ c.args.limit _ _ _ (monitored _)
    c.print_input.ensures.output
