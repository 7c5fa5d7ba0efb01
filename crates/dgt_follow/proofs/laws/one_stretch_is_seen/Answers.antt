use Rattle.dgt_follow.proofs.OneStretch.{one_stretch}
use Rattle.dgt_follow.proofs.laws.one_stretch_is_seen.Goals as goal

pub returns : goal.returns
returns c =
    one_stretch c.faulty_bytes_are_a_passage.ensures c.one_fault_is_seen.ensures.is
    c.confirmed_as_heard.ensures.called
