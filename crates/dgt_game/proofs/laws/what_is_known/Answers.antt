use Rattle.dgt_game.proofs.Pictures.{earlier_known, else_start, gone_known, moves_known, start_known, two_known}
use Rattle.dgt_game.proofs.Gone.{lifted_not_gone, theirs_is_only}
use Rattle.dgt_game.proofs.laws.what_is_known.Goals as goal

pub returns-clause-moves : goal.returns-clause-moves
returns-clause-moves c = moves_known

pub returns-clause-two : goal.returns-clause-two
returns-clause-two c = two_known

pub returns-clause-earlier : goal.returns-clause-earlier
returns-clause-earlier c = earlier_known

pub returns-clause-start : goal.returns-clause-start
returns-clause-start c = start_known

pub returns-clause-others : goal.returns-clause-others
returns-clause-others c = else_start

pub returns-clause-live : goal.returns-clause-live
returns-clause-live c = λ self live. live.0

pub returns-clause-gone : goal.returns-clause-gone
returns-clause-gone c = gone_known

pub returns-clause-theirs : goal.returns-clause-theirs
returns-clause-theirs c = theirs_is_only

pub returns-clause-lifted : goal.returns-clause-lifted
returns-clause-lifted c = lifted_not_gone
