use Rattle.{std.proofs.Common.{refl, []}, dgt_game.proofs.Timing.{calls_then, no_call_matters}}
use Rattle.dgt_game.proofs.laws.no_call_matters.Goals as goal

pub returns-clause-matters : goal.returns-clause-matters
returns-clause-matters c = no_call_matters

pub returns-clause-more : goal.returns-clause-more
returns-clause-more c = calls_then

pub returns-clause-one : goal.returns-clause-one
returns-clause-one c = λ old new now report due. (report, new, due, ([], (refl, refl), refl))
