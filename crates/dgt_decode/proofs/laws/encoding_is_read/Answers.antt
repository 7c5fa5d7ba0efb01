use Rattle.dgt_decode.proofs.Encoded.{encoding_is_read}
use Rattle.dgt_decode.proofs.laws.encoding_is_read.Goals as goal

pub returns : goal.returns
returns c = encoding_is_read c.encoded_is_read.ensures c.encoding_encodes.ensures
