use Rattle.dgt_chess.proofs.Lenient.{one_reading}
use Rattle.dgt_chess.proofs.laws.one_lenient_reading.Goals as goal

pub returns : goal.returns
returns c = one_reading
