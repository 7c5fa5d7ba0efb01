use Rattle.dgt_link.proofs.Behind.{step_behind}
use Rattle.dgt_link.proofs.healing.acts_behind_garbage.Goals as goal

pub returns : goal.returns
returns c = step_behind c.grammars.ensures
