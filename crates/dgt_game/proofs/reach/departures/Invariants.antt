use Rattle.std.proofs.Common.{◌≡◌, ◌≤◌, take}
use Rattle.dgt_values.specs.Board.{pieces_of}
use Rattle.dgt_game.specs.Reach.{departures}
use Rattle.dgt_game.proofs.reach.departures.Given as goal

abbrev pub invariant-loop-square : goal.invariant-loop-square
invariant-loop-square l =
    (l.count
    ≡ departures l.kind (take l.square (pieces_of l.old)) (take l.square (pieces_of l.new)))
    × (l.count ≤ l.square)
