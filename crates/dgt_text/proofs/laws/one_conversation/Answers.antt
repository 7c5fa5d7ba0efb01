use Rattle.dgt_text.proofs.ConversationLemmas.{each_is_answered, each_is_answered_once, each_prefix_goes_on}
use Rattle.dgt_text.proofs.laws.one_conversation.Goals as goal

pub returns-clause-answered : goal.returns-clause-answered
returns-clause-answered c =
    each_is_answered c.one_division.ensures c.parts_of_words.ensures.bytes
    c.bounded_sending.ensures.falls

pub returns-clause-once : goal.returns-clause-once
returns-clause-once c = each_is_answered_once c.one_division.ensures

pub returns-clause-goes_on : goal.returns-clause-goes_on
returns-clause-goes_on c = each_prefix_goes_on c.prefixes_divide_first.ensures
