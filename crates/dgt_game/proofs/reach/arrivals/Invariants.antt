use Rattle.std.proofs.Common.{◌≡◌, ◌≤◌, take}
use Rattle.dgt_values.specs.Board.{pieces_of}
use Rattle.dgt_game.specs.Reach.{arrivals}
use Rattle.dgt_game.proofs.reach.arrivals.Given as goal

abbrev pub invariant-loop-square : goal.invariant-loop-square
invariant-loop-square l =
    (l.count
    ≡ arrivals l.colour (take l.square (pieces_of l.old)) (take l.square (pieces_of l.new)))
    × (l.count ≤ l.square)
