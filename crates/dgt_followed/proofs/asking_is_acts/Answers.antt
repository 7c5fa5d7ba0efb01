use Rattle.dgt_followed.proofs.Acts.{asking_is_acts}
use Rattle.dgt_followed.proofs.asking_is_acts.Goals as goal

pub returns : goal.returns
returns c = asking_is_acts
