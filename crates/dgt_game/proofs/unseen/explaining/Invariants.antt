use Rattle.std.proofs.Common.{◌<◌}
use Rattle.dgt_values.specs.Board.{pieces_of, square_number}
use Rattle.dgt_game.specs.Unseen.{FoundBy}
use Rattle.dgt_game.proofs.unseen.explaining.Given as goal

abbrev pub invariant-loop-from : goal.invariant-loop-from
invariant-loop-from l =
    FoundBy (λ one. square_number one.from < l.from) (pieces_of l.picture) l.state l.found
