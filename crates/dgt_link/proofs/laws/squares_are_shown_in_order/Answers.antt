use Rattle.dgt_link.proofs.History.{in_order}
use Rattle.dgt_link.proofs.laws.squares_are_shown_in_order.Goals as goal

pub returns : goal.returns
returns c = λ x moves square. in_order square x moves
