use Rattle.dgt_host.proofs.OneSending.{one_sending}
use Rattle.dgt_host.proofs.laws.one_sending.Goals as goal

pub returns : goal.returns
returns c = one_sending
