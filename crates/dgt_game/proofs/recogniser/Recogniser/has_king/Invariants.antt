use Rattle.std.proofs.Common.{◌≢◌, ◌<◌, ℕ}
use Rattle.dgt_values.specs.Board.{pieces_of}
use Rattle.dgt_chess.specs.declared.pieces.Man.{Man}
use Rattle.dgt_chess.specs.Attacks.{piece_at, piece_of}
use Rattle.dgt_game.proofs.recogniser.Recogniser.has_king.Given as goal

abbrev pub invariant-loop-at : goal.invariant-loop-at
invariant-loop-at l =
    (k : ℕ) → k < l.at → piece_at (pieces_of l.view.shown) k ≢ piece_of l.colour Man.King
