use Rattle.dgt_values.specs.Board.{pieces_of}
use Rattle.dgt_game.{specs.Results.{StandsAs}, proofs.Waiting.{Almost}}
use Rattle.dgt_game.proofs.kings.is_almost.Given as goal

abbrev pub invariant-loop-at : goal.invariant-loop-at
invariant-loop-at l =
    Almost (StandsAs (pieces_of l.shown) (pieces_of l.position)) l.at l.one l.other
