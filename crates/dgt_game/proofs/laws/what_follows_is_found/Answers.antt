use Rattle.dgt_game.proofs.Finding.{what_follows_is_found}
use Rattle.dgt_game.proofs.laws.what_follows_is_found.Goals as goal

pub returns-clause-found : goal.returns-clause-found
returns-clause-found c = what_follows_is_found
