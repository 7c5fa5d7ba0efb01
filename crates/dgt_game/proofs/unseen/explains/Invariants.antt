use Rattle.std.proofs.Common.{◌<◌, ℕ}
use Rattle.dgt_values.specs.Board.{pieces_of}
use Rattle.dgt_game.specs.Results.{ExplainsAt}
use Rattle.dgt_game.proofs.unseen.explains.Given as goal

abbrev pub invariant-loop-at : goal.invariant-loop-at
invariant-loop-at l =
    (k : ℕ) → k < l.at → ExplainsAt (pieces_of l.picture) (pieces_of l.position) k
