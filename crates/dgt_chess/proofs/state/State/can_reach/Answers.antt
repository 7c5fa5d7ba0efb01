use Rattle.{std.specs.Prelude.{IsTrue, false}, dgt_chess.proofs.Loose.{moves_by}}
use Rattle.dgt_chess.proofs.state.State.can_reach.Goals as goal

pub returns-then-not-moves : goal.returns-then-not-moves
returns-then-not-moves c = (
  λ (yes : IsTrue false). let no : ⊥ = cc in absurd no,
  λ go. let holds = c.moves.ensures.1 (moves_by c.args.self.now c.args.mover c.args.b
      c.requires.mover go) in
      cc,
)
