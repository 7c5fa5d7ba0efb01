use Rattle.dgt_decode.proofs.Anew.{begins_anew}
use Rattle.dgt_decode.proofs.laws.begins_anew.Goals as goal

pub returns : goal.returns
returns c = begins_anew
