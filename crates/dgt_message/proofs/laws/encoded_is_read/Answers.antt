use Rattle.dgt_message.proofs.ReadingFits.{encoded_is_read}
use Rattle.dgt_message.proofs.laws.encoded_is_read.Goals as goal

pub returns : goal.returns
returns c = encoded_is_read
