use Rattle.dgt_link.proofs.History.{worlds_in_order}
use Rattle.dgt_link.proofs.laws.worlds_show_in_order.Goals as goal

pub returns : goal.returns
returns c =
    λ acts world answers worlds square.
    worlds_in_order square c.acts_are_moves.ensures.one acts world answers worlds
