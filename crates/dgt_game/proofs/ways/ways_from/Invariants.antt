use Rattle.std.proofs.Common.{◌≡◌, ◌<◌}
use Rattle.std.specs.Prelude.{suc}
use Rattle.dgt_values.specs.Board.{pieces_of, square_number}
use Rattle.dgt_game.specs.Ways.{AreWaysBy}
use Rattle.dgt_game.proofs.ways.ways_from.Given as goal

abbrev pub invariant-loop-to : goal.invariant-loop-to
invariant-loop-to g l =
    AreWaysBy (λ one. (square_number one.from ≡ l.from) × (square_number one.to < l.to))
    (suc g.S.Search.depth) l.state (pieces_of l.picture) l.found
