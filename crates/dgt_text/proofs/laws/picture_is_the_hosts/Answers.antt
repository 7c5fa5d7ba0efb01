use Rattle.dgt_text.proofs.HostLemmas.{picture_is_the_hosts}
use Rattle.dgt_text.proofs.laws.picture_is_the_hosts.Goals as goal

pub returns : goal.returns
returns c = picture_is_the_hosts
