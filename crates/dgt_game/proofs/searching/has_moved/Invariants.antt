use Rattle.std.proofs.Common.{◌<◌, ℕ}
use Rattle.dgt_values.specs.Board.{pieces_of}
use Rattle.dgt_game.specs.Reading.{MovedAt}
use Rattle.dgt_game.proofs.searching.has_moved.Given as goal

abbrev pub invariant-loop-at : goal.invariant-loop-at
invariant-loop-at l = (k : ℕ) → k < l.at → ¬ (MovedAt (pieces_of l.shown) l.state l.side k)
