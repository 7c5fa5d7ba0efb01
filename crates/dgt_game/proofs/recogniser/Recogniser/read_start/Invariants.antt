use Rattle.std.proofs.Common.{◌≡◌, ◌<◌, ℕ, true, false, [], ◌∷◌, slice_index_or}
use Rattle.dgt_values.specs.Board.{pieces_of}
use Rattle.dgt_chess.specs.Rules.{board}
use Rattle.dgt_game.specs.Told.{as_shown}
use Rattle.dgt_game.proofs.recogniser.Recogniser.read_start.Given as goal

-- the start isn't shown from the sides that were looked from
abbrev pub invariant-loop-is_turned : goal.invariant-loop-is_turned
invariant-loop-is_turned l = (k : ℕ) → k < l.is_turned-index
    → ¬ (board l.start ≡ as_shown (slice_index_or (false ∷ true ∷ []) k false)
    (pieces_of l.view.shown))
