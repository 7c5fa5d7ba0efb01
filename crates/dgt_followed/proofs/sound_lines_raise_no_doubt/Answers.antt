use Rattle.dgt_followed.proofs.{Restating.{moves_restate}, Undoubted.{asks_no_doubt, hears_as_the_machine}}
use Rattle.dgt_followed.proofs.sound_lines_raise_no_doubt.Goals as goal

pub returns-clause-restated : goal.returns-clause-restated
returns-clause-restated c = moves_restate c.moves_keep.ensures.sound

pub returns-clause-heard : goal.returns-clause-heard
returns-clause-heard c = hears_as_the_machine c.answers_in_order.ensures.first

pub returns-clause-asked : goal.returns-clause-asked
returns-clause-asked c = asks_no_doubt
