use Rattle.{std.proofs.Common.{rules}, dgt_text.{specs.Simulating.{faulty_rules, plain_rules}, proofs.{EndOnce.{acts_clear}, TornLemmas.{one_is_torn, only_whole_lines, torn_texts_begin}}}}
use Rattle.dgt_text.proofs.laws.torn_texts_begin.Goals as goal

pub returns-clause-plain : goal.returns-clause-plain
returns-clause-plain c = search (rules, torn_texts_begin, acts_clear)

pub returns-clause-faulty : goal.returns-clause-faulty
returns-clause-faulty c = search (rules, torn_texts_begin, acts_clear)

pub returns-clause-whole_lines : goal.returns-clause-whole_lines
returns-clause-whole_lines c = search (rules, only_whole_lines, acts_clear)

pub returns-clause-whole_faulty_lines : goal.returns-clause-whole_faulty_lines
returns-clause-whole_faulty_lines c = search (rules, only_whole_lines, acts_clear)

pub returns-clause-one : goal.returns-clause-one
returns-clause-one c = one_is_torn plain_rules

pub returns-clause-one_faulty : goal.returns-clause-one_faulty
returns-clause-one_faulty c = one_is_torn faulty_rules
