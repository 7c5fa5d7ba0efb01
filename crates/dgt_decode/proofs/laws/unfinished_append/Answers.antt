use Rattle.dgt_decode.proofs.UnfinishedLemmas.{unfinished-append}
use Rattle.dgt_decode.proofs.laws.unfinished_append.Goals as goal

pub returns : goal.returns
returns c = unfinished-append
