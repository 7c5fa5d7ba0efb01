use Rattle.dgt_c.proofs.GameLemmas.{one_observation, one_sight}
use Rattle.dgt_c.proofs.laws.games.one_observation.Goals as goal

pub returns-clause-sight : goal.returns-clause-sight
returns-clause-sight c = one_sight c.one_piece_a_code.ensures

pub returns-clause-observation : goal.returns-clause-observation
returns-clause-observation c = one_observation c.one_piece_a_code.ensures
