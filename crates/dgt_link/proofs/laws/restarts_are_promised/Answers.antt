use Rattle.dgt_link.proofs.BothWays.{restarted_is_promised}
use Rattle.dgt_link.proofs.laws.restarts_are_promised.Goals as goal

pub returns-clause-promised : goal.returns-clause-promised
returns-clause-promised c = restarted_is_promised
