use Rattle.dgt_decode.proofs.Bytes.{unfinished_is_short}
use Rattle.dgt_decode.proofs.laws.unfinished_is_short.Goals as goal

pub returns : goal.returns
returns c = unfinished_is_short
