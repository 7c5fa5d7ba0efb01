use Rattle.dgt_command.proofs.DivisionLemmas.{nothing_is_partial}
use Rattle.dgt_command.proofs.framer.WordFramer.new.Goals as goal

pub invariant_of-result : goal.invariant_of-result
invariant_of-result c = rw c.new.ensures nothing_is_partial
