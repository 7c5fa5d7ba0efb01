use Rattle.dgt_host.proofs.ConfirmedLemmas.{compared}
use Rattle.dgt_host.proofs.hearing.is_other.Goals as goal

pub returns : goal.returns
returns c = compared c.is_equal.result _ _ c.is_equal.ensures
