use Rattle.dgt_chess.proofs.Lenient.{strict_lenient}
use Rattle.dgt_chess.proofs.laws.strict_is_lenient.Goals as goal

pub returns : goal.returns
returns c = strict_lenient
