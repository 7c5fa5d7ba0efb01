use Rattle.dgt_decode.proofs.UnfinishedLemmas.{length-unfinished}
use Rattle.dgt_decode.proofs.laws.unfinished_is_part.Goals as goal

pub returns : goal.returns
returns c = length-unfinished
