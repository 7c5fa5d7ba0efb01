use Rattle.{std.proofs.Common.{Some, rules}, dgt_message.specs.Content.{times_seen}, dgt_lines.specs.NamedLines.{times_name}}
use Rattle.dgt_lines.proofs.naming.put_message_name.Goals as goal

pub returns-in-Times-clause-output : goal.returns-in-Times-clause-output
returns-in-Times-clause-output g c =
    let name = Some (times_name (times_seen c.in-Times.times)) in
    rw c.in-Times.is (search rules)
