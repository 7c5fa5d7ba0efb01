use Rattle.dgt_decode.proofs.Equal.{equal_events}
use Rattle.dgt_decode.proofs.laws.equal_is_same.Goals as goal

pub returns-clause-event : goal.returns-clause-event
returns-clause-event c = equal_events c.equal_is_same.ensures.message
