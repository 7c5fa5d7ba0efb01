use Rattle.dgt_follow.proofs.Overdue.{stays_sure}
use Rattle.dgt_follow.proofs.laws.confirmed_is_sure.Goals as goal

pub returns : goal.returns
returns c = stays_sure
