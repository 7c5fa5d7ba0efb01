use Rattle.dgt_host.proofs.StretchLemmas.{stretch}
use Rattle.dgt_host.proofs.laws.faulty_bytes_are_a_passage.Goals as goal

pub returns : goal.returns
returns c = stretch c.encoding_is_read.ensures c.events_append.ensures c.unfinished_append.ensures
