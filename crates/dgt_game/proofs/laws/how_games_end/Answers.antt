use Rattle.dgt_game.proofs.{Pictures.{live_for_ten}, Results.{centre_is_middle, explained_is_like, kings_are_named, mated_has_lost, others_stand, shown_is_explained}}
use Rattle.dgt_game.proofs.{Explaining.{before_kings_is_only}, Settling.{kings_are_outside}}
use Rattle.dgt_game.proofs.laws.how_games_end.Goals as goal

pub returns-clause-mated : goal.returns-clause-mated
returns-clause-mated c = mated_has_lost

pub returns-clause-kings : goal.returns-clause-kings
returns-clause-kings c = kings_are_named

pub returns-clause-centre : goal.returns-clause-centre
returns-clause-centre c = centre_is_middle

pub returns-clause-others : goal.returns-clause-others
returns-clause-others c = others_stand

pub returns-clause-live : goal.returns-clause-live
returns-clause-live c = live_for_ten

pub returns-clause-explained : goal.returns-clause-explained
returns-clause-explained c = shown_is_explained

pub returns-clause-like : goal.returns-clause-like
returns-clause-like c = explained_is_like

pub returns-clause-before : goal.returns-clause-before
returns-clause-before c = before_kings_is_only

pub returns-clause-outside : goal.returns-clause-outside
returns-clause-outside c = kings_are_outside
