use Rattle.{std.proofs.Common.{rules}, dgt_text.proofs.AnswerLemmas.{broken_answers_begin, one_is_cut_off}}
use Rattle.dgt_text.proofs.laws.one_answer.Goals as goal

pub returns-clause-once : goal.returns-clause-once
returns-clause-once c = search rules

pub returns-clause-begins : goal.returns-clause-begins
returns-clause-begins c = broken_answers_begin c.one_conversation.ensures.goes_on

pub returns-clause-one : goal.returns-clause-one
returns-clause-one c = one_is_cut_off
