use Rattle.dgt_text.proofs.PlayLemmas.{stopped_none}
use Rattle.dgt_text.proofs.simulating.refuse.Goals as goal

pub returns-in_err-flush-clause-bytes : goal.returns-in_err-flush-clause-bytes
returns-in_err-flush-clause-bytes g c = stopped_none g.W.Sink _ _ c.in_err-flush.ensures.output.1
