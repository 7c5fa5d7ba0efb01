use Rattle.dgt_game.proofs.Results.{calls_follow_on, runs_in_turn}
use Rattle.dgt_game.proofs.laws.what_runs_say.Goals as goal

pub returns-clause-calls : goal.returns-clause-calls
returns-clause-calls c = calls_follow_on

pub returns-clause-turn : goal.returns-clause-turn
returns-clause-turn c = runs_in_turn
