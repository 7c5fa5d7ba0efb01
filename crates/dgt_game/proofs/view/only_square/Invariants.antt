use Rattle.dgt_values.specs.Board.{pieces_of}
use Rattle.dgt_game.proofs.Waiting.{FoundOn}
use Rattle.dgt_game.proofs.view.only_square.Given as goal

abbrev pub invariant-loop-at : goal.invariant-loop-at
invariant-loop-at l = FoundOn (pieces_of l.position) l.piece l.at l.found
