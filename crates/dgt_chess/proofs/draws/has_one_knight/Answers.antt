use Rattle.{std.{proofs.Common.{rules, ℕ, List, arith}, specs.Prelude.{IsTrue, false}}, dgt_values.specs.declared.pieces.Piece.{Piece}, dgt_chess.specs.declared.pieces.Man.TheVariants.{Knight}}
use Rattle.dgt_chess.{specs.Draws.{HasOneKnight, Holds, IsBare}}
use Rattle.dgt_chess.proofs.draws.has_one_knight.Goals as goal

not_bare : (pieces : List Piece) (square : ℕ) → Holds pieces Knight square → IsBare pieces square
    → ⊥
unfolding Holds
not_bare pieces square knight bare = search rules

pub returns-in-None : goal.returns-in-None
unfolding HasOneKnight
returns-in-None c = (
  λ (yes : IsTrue false). let no : ⊥ = cc in absurd no,
  λ one. absurd (not_bare _ one.0 one.2 (c.in-None.ensures one.0 (omega arith) one.1)),
)
