use Rattle.{std.proofs.Common.{rules}}
use Rattle.dgt_c.proofs.sender.send_clock.Goals as goal

pub returns-clause-sends : goal.returns-clause-sends
returns-clause-sends g c = search rules
