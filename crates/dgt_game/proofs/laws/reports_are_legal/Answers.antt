use Rattle.dgt_game.proofs.Runs.{calls_are_runs, legal_and_shown, reported_in_order}
use Rattle.dgt_game.proofs.laws.reports_are_legal.Goals as goal

pub returns-clause-are : goal.returns-clause-are
returns-clause-are c = legal_and_shown

pub returns-clause-runs : goal.returns-clause-runs
returns-clause-runs c = calls_are_runs

pub returns-clause-order : goal.returns-clause-order
returns-clause-order c = reported_in_order
