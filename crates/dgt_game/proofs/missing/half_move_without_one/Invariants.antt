use Rattle.dgt_values.specs.Board.{pieces_of}
use Rattle.dgt_game.proofs.Gone.{Found}
use Rattle.dgt_game.proofs.missing.half_move_without_one.Given as goal

abbrev pub invariant-loop-at : goal.invariant-loop-at
invariant-loop-at l = Found l.state (pieces_of l.picture) l.at l.found
