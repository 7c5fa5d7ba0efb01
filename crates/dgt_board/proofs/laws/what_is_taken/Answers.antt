use Rattle.{std.proofs.Common.{refl}, dgt_board.proofs.TakingLemmas.{takes_word}}
use Rattle.dgt_board.proofs.laws.what_is_taken.Goals as goal

pub returns-clause-whole : goal.returns-clause-whole
returns-clause-whole c = λ before bytes event word.
    (takes_word c.parts_of_words.ensures.nothing before _ bytes event word refl refl).1
