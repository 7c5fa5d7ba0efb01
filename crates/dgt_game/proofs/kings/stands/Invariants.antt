use Rattle.dgt_values.specs.Board.{pieces_of}
use Rattle.dgt_game.proofs.Waiting.{Fitting}
use Rattle.dgt_game.proofs.kings.stands.Given as goal

abbrev pub invariant-loop-at : goal.invariant-loop-at
invariant-loop-at l = Fitting (pieces_of l.shown) (pieces_of l.position) l.at l.has_other
