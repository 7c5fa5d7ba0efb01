use Rattle.dgt_decode.proofs.Answering.{same_calls, some_calls}
use Rattle.dgt_decode.proofs.laws.one_answer_in_chunks.Goals as goal

pub returns : goal.returns
returns c = record { some = some_calls; one = same_calls }
