use Rattle.std.proofs.Common.{◌≡◌, ◌-◌, ◌≤◌, take}
use Rattle.std.specs.Prelude.{drop, reverse}
use Rattle.dgt_values.specs.Board.{pieces_of}
use Rattle.dgt_game.proofs.view.turned.Given as goal

-- the last squares are the first ones, backwards
abbrev pub invariant-loop-at : goal.invariant-loop-at
invariant-loop-at l =
    (drop (64 - l.at) (pieces_of l.new) ≡ reverse (take l.at (pieces_of l.position)))
    × (l.at ≤ 64)
