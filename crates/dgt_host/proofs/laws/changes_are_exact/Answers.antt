use Rattle.dgt_host.proofs.ConfirmedLemmas.{changes_exact}
use Rattle.dgt_host.proofs.laws.changes_are_exact.Goals as goal

pub returns : goal.returns
returns c = changes_exact
