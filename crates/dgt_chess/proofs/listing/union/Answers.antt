use Rattle.dgt_chess.proofs.Ways.{in_union}
use Rattle.dgt_chess.proofs.listing.union.Goals as goal

pub returns : goal.returns
returns c = λ k small. in_union c.args.first c.args.second k
