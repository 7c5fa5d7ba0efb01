use Rattle.dgt_decode.proofs.AnyChunks.{encoding_in_chunks}
use Rattle.dgt_decode.proofs.laws.encoding_in_chunks.Goals as goal

pub returns : goal.returns
returns c = encoding_in_chunks c.encoded_is_read.ensures c.encoding_encodes.ensures
