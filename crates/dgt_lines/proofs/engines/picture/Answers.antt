use Rattle.{std.proofs.Common.{arith, rules}, dgt_lines.proofs.{Pictured.{pictured_none, reported}, Printed.{ran_with}}}
use Rattle.dgt_lines.proofs.engines.picture.Goals as goal

pub print_input-requires : goal.print_input-requires
print_input-requires g c =
    (omega arith, (rw c.new.ensures (pictured_none _), c.new-outgoing.ensures))

pub returns-clause-output : goal.returns-clause-output
returns-clause-output g c = search (rules, ran_with, reported)
