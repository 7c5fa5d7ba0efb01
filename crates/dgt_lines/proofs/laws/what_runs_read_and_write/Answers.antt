use Rattle.std.proofs.Common.{rules}
use Rattle.dgt_lines.proofs.laws.what_runs_read_and_write.Goals as goal

pub returns-clause-read : goal.returns-clause-read
returns-clause-read g c a b d e ran had = search rules

pub returns-clause-written : goal.returns-clause-written
returns-clause-written g c a b d e ran had = search rules

pub returns-clause-turns : goal.returns-clause-turns
returns-clause-turns g c bytes out run = run.0

pub returns-clause-holds : goal.returns-clause-holds
returns-clause-holds g c bytes out run = run.1
