use Rattle.dgt_message.proofs.EncodingEncodes.{encoding_encodes}
use Rattle.dgt_message.proofs.laws.encoding_encodes.Goals as goal

pub returns : goal.returns
returns c = encoding_encodes
