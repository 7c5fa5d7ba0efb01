use Rattle.{std.proofs.Common.{rules}, dgt_lines.proofs.Logged.{one_log}}
use Rattle.dgt_lines.proofs.laws.what_log_leaves.Goals as goal

pub returns : goal.returns
returns c = search (rules, one_log)
