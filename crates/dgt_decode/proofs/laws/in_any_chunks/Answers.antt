use Rattle.dgt_decode.proofs.AnyChunks.{in_any_chunks}
use Rattle.dgt_decode.proofs.laws.in_any_chunks.Goals as goal

pub returns : goal.returns
returns c = in_any_chunks
