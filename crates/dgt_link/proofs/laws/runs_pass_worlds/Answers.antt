use Rattle.dgt_link.proofs.BothWays.{passed, passing_runs}
use Rattle.dgt_link.proofs.laws.runs_pass_worlds.Goals as goal

pub returns-clause-passes : goal.returns-clause-passes
returns-clause-passes c = passed

pub returns-clause-runs : goal.returns-clause-runs
returns-clause-runs c = passing_runs
