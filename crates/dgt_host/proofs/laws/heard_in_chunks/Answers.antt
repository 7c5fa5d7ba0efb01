use Rattle.dgt_host.proofs.HearingLemmas.{heard_in_chunks}
use Rattle.dgt_host.proofs.laws.heard_in_chunks.Goals as goal

pub returns : goal.returns
returns c = heard_in_chunks c.events_append.ensures c.unfinished_append.ensures
