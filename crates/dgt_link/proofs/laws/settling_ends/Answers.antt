use Rattle.dgt_link.proofs.Settling.{run_steps}
use Rattle.dgt_link.proofs.laws.settling_ends.Goals as goal

pub returns : goal.returns
returns c =
    run_steps c.acts_keep.ensures.sound c.bounded_backlog.ensures.falls c.words_are_short.ensures
    c.parts_of_words.ensures.no_word c.bounded_backlog.ensures.rises
