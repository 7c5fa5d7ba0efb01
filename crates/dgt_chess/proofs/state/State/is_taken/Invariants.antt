use Rattle.{std.{proofs.Common.{ℕ, ◌<◌}, specs.Prelude.{None}}, dgt_chess.specs.{declared.pieces.Man.TheVariants.{Pawn}, Rules.{LegalBy, TakesPassing, board, passed}}}
use Rattle.dgt_chess.proofs.state.State.is_taken.Given as goal

abbrev pub invariant-loop-a : goal.invariant-loop-a
invariant-loop-a l =
    (k : ℕ) → k < l.a → ¬
    (LegalBy Pawn l.self k l.b None
    × TakesPassing (board l.self) l.self.turn (passed l.self) k l.b)
