use Rattle.dgt_link.proofs.Headlines.{asking_is_asked}
use Rattle.dgt_link.proofs.laws.asking_is_exact.Goals as goal

pub returns : goal.returns
returns c = asking_is_asked
