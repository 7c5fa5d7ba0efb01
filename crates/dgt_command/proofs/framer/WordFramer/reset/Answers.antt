use Rattle.dgt_command.proofs.DivisionLemmas.{nothing_is_partial}
use Rattle.dgt_command.proofs.framer.WordFramer.reset.Goals as goal

pub invariant_of-self : goal.invariant_of-self
invariant_of-self c = rw c.clear.ensures nothing_is_partial
