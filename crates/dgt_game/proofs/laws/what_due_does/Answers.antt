use Rattle.dgt_game.proofs.Timing.{due_ends, due_is_right}
use Rattle.dgt_game.proofs.laws.what_due_does.Goals as goal

pub returns-clause-right : goal.returns-clause-right
returns-clause-right c = due_is_right

pub returns-clause-idle : goal.returns-clause-idle
returns-clause-idle c = due_ends
