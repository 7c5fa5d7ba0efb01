use Rattle.dgt_board.proofs.TakingLemmas.{takes_on}
use Rattle.dgt_board.proofs.laws.takings_append.Goals as goal

pub returns : goal.returns
returns c = takes_on c.divisions_append.ensures
