use Rattle.{std.proofs.Common.{rules}, dgt_text.proofs.EndOnce.{acts_clear, one_bad_line, one_end}}
use Rattle.dgt_text.proofs.laws.scripts_have_one_end.Goals as goal

pub returns-clause-plain : goal.returns-clause-plain
returns-clause-plain c = search (rules, one_end, acts_clear)

pub returns-clause-faulty : goal.returns-clause-faulty
returns-clause-faulty c = search (rules, one_end, acts_clear)

pub returns-clause-bad : goal.returns-clause-bad
returns-clause-bad c = search (rules, one_bad_line, acts_clear)

pub returns-clause-bad_faulty : goal.returns-clause-bad_faulty
returns-clause-bad_faulty c = search (rules, one_bad_line, acts_clear)
