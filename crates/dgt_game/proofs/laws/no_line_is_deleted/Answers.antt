use Rattle.dgt_game.proofs.Filing.{all_is_file, asked_stays, asks_are_legal, corrections_keep_nothing, ended_is_kept, no_line_is_deleted, one_begins, steps_are_made, whole_is_kept}
use Rattle.dgt_game.proofs.laws.no_line_is_deleted.Goals as goal

pub returns-clause-stays : goal.returns-clause-stays
returns-clause-stays c = no_line_is_deleted

pub returns-clause-whole : goal.returns-clause-whole
returns-clause-whole c = whole_is_kept

pub returns-clause-asked : goal.returns-clause-asked
returns-clause-asked c = asked_stays

pub returns-clause-corrections : goal.returns-clause-corrections
returns-clause-corrections c = corrections_keep_nothing

pub returns-clause-legal : goal.returns-clause-legal
returns-clause-legal c = asks_are_legal

pub returns-clause-all : goal.returns-clause-all
returns-clause-all c = all_is_file

pub returns-clause-ended : goal.returns-clause-ended
returns-clause-ended c = ended_is_kept

pub returns-clause-begins : goal.returns-clause-begins
returns-clause-begins c = one_begins

pub returns-clause-steps : goal.returns-clause-steps
returns-clause-steps c = steps_are_made
