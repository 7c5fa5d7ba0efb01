use Rattle.{std.proofs.Common.{rules}, dgt_lines.proofs.Printed.{stands_by}}
use Rattle.dgt_lines.proofs.laws.what_monitor_names_leaves.Goals as goal

pub returns : goal.returns
returns c = search (rules, stands_by)
