use Rattle.dgt_values.proofs.laws.what_is_cloned.Goals as goal

pub returns : goal.returns
returns c = λ succeeds may_give a b cloned. ((cloned a).0, (cloned a).1 b)
