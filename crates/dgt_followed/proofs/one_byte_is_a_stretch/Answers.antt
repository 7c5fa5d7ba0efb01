use Rattle.dgt_followed.proofs.OneByte.{one_byte}
use Rattle.dgt_followed.proofs.one_byte_is_a_stretch.Goals as goal

pub returns : goal.returns
returns c = one_byte c.encoding_encodes.ensures
