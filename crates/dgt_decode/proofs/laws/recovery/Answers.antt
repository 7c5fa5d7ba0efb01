use Rattle.dgt_decode.proofs.Encoded.{recovery}
use Rattle.dgt_decode.proofs.laws.recovery.Goals as goal

pub returns : goal.returns
returns c = recovery c.encoded_is_read.ensures
