use Rattle.dgt_link.proofs.Fair.{rounds_rest}
use Rattle.dgt_link.proofs.laws.fair_rounds_rest.Goals as goal

pub returns : goal.returns
returns c = rounds_rest c.nothing_to_send.ensures.none_owed c.acts_keep.ensures.sound
    c.bounded_backlog.ensures.falls
    c.words_are_short.ensures c.parts_of_words.ensures.no_word c.bounded_backlog.ensures.rises
