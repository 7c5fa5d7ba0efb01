use Rattle.{std.proofs.Common.{rules}, dgt_lines.proofs.ReportLemmas.{state_from-append, text_from-append}}
use Rattle.dgt_lines.proofs.laws.reports_append.Goals as goal

pub returns : goal.returns
returns c = search (rules, text_from-append, state_from-append)
