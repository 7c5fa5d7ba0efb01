use Rattle.std.proofs.Common.{rules}
use Rattle.dgt_program.proofs.program.play_at_fault.Goals as goal

pub returns : goal.returns
returns g c = search rules
