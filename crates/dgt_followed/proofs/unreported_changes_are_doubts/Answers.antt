use Rattle.dgt_followed.proofs.{Undoubted.{agreeing_ends}, Unreported.{change_is_doubt}}
use Rattle.dgt_followed.proofs.unreported_changes_are_doubts.Goals as goal

pub returns-clause-raised : goal.returns-clause-raised
returns-clause-raised c = change_is_doubt

pub returns-clause-ended : goal.returns-clause-ended
returns-clause-ended c = agreeing_ends
