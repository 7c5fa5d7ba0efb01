use Rattle.dgt_host.proofs.HearingLemmas.{host_after_events-behind}
use Rattle.dgt_host.proofs.laws.places_do_not_matter.Goals as goal

pub returns : goal.returns
returns c = host_after_events-behind
