use Rattle.std.proofs.Common.{◌<◌, ℕ}
use Rattle.dgt_values.specs.Board.{pieces_of}
use Rattle.dgt_game.proofs.Planning.{StandsAt}
use Rattle.dgt_game.proofs.reading.lacks_only.Given as goal

abbrev pub invariant-loop-at : goal.invariant-loop-at
invariant-loop-at l = (k : ℕ) → k < l.at → StandsAt (pieces_of l.shown) l.state k
