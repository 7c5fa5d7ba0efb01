use Rattle.dgt_lines.proofs.ShownLemmas
use Rattle.dgt_lines.proofs.laws.segments_are_read_back.Goals as goal

pub returns-clause-characters : goal.returns-clause-characters
returns-clause-characters c = ShownLemmas.each_character_is_shown

pub returns-clause-others : goal.returns-clause-others
returns-clause-others c = ShownLemmas.others_are_question_marks
