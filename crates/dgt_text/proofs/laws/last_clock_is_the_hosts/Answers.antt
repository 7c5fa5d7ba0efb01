use Rattle.dgt_text.proofs.HostLemmas.{last_clock_is_the_hosts}
use Rattle.dgt_text.proofs.laws.last_clock_is_the_hosts.Goals as goal

pub returns : goal.returns
returns c = last_clock_is_the_hosts c.last_line_is_clock.ensures
