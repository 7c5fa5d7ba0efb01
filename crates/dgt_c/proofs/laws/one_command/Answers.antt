use Rattle.dgt_c.proofs.OnceLemmas.{busy_boards_stay, one_taking, one_word}
use Rattle.dgt_c.proofs.laws.one_command.Goals as goal

pub returns-clause-word : goal.returns-clause-word
returns-clause-word c = one_word c.no_word_begins_another.ensures c.parts_of_words.ensures.no_word

pub returns-clause-taking : goal.returns-clause-taking
returns-clause-taking c =
    one_taking c.no_word_begins_another.ensures c.parts_of_words.ensures.no_word

pub returns-clause-busy : goal.returns-clause-busy
returns-clause-busy c = busy_boards_stay
