use Rattle.std.proofs.Common.{refl}
use Rattle.dgt_lines.proofs.clocks.push_side.Goals as goal

pub returns-clause-text : goal.returns-clause-text
returns-clause-text c = rw (c.push_flags.ensures.text, c.flags.ensures.value) refl
