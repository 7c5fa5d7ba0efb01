use Rattle.dgt_host.proofs.HearingLemmas.{nothing_heard}
use Rattle.dgt_host.proofs.laws.nothing_heard.Goals as goal

pub returns : goal.returns
returns c = nothing_heard c.unfinished_is_quiet.ensures
