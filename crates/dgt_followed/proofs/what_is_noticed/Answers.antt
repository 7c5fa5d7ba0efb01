use Rattle.dgt_followed.proofs.BothWays.{noticed_is, unheard}
use Rattle.dgt_followed.proofs.what_is_noticed.Goals as goal

pub returns-clause-acts : goal.returns-clause-acts
returns-clause-acts c = noticed_is

pub returns-clause-unheard : goal.returns-clause-unheard
returns-clause-unheard c = unheard
