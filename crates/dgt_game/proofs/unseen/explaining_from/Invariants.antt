use Rattle.std.proofs.Common.{◌≡◌, ◌<◌}
use Rattle.dgt_values.specs.Board.{pieces_of, square_number}
use Rattle.dgt_game.specs.Unseen.{FoundBy}
use Rattle.dgt_game.proofs.unseen.explaining_from.Given as goal

abbrev pub invariant-loop-to : goal.invariant-loop-to
invariant-loop-to l =
    FoundBy (λ one. (square_number one.from ≡ l.from) × (square_number one.to < l.to))
    (pieces_of l.picture) l.state l.found
