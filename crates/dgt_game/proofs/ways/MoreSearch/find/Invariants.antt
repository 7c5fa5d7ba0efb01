use Rattle.std.proofs.Common.{◌<◌}
use Rattle.std.specs.Prelude.{suc}
use Rattle.dgt_values.specs.Board.{pieces_of, square_number}
use Rattle.dgt_game.specs.Ways.{AreWaysBy}
use Rattle.dgt_game.proofs.ways.MoreSearch.find.Given as goal

abbrev pub invariant-loop-from : goal.invariant-loop-from
invariant-loop-from g l =
    AreWaysBy (λ one. square_number one.from < l.from) (suc g.S.Search.depth) l.state
    (pieces_of l.picture) l.found
