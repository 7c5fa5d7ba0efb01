use Rattle.{std.proofs.Common.{arith, ℕ, inl, inr}, dgt_values.specs.Board.{pieces_of}, dgt_game.{specs.{declared.node.Place.{Place}, Reading.{HasLine}}, proofs.Moved.{none_more, none_some}}}
use Rattle.dgt_game.proofs.recogniser.Recogniser.read_replaced.Goals as goal

pub loop-k-preserved : goal.loop-k-preserved
loop-k-preserved c =
    none_more (λ (k : ℕ). HasLine 1 c.args.self.now.memory (Place.Line k)
    (pieces_of c.args.view.now.shown)) c.loop-k.k c.loop-k.invariant
    (λ line. none_some c.made.result c.in_default.is (c.made.ensures.reads line))

pub loop-k-2-preserved : goal.loop-k-2-preserved
loop-k-2-preserved c =
    none_more (λ (k : ℕ). HasLine 2 c.args.self.now.memory (Place.Line k)
    (pieces_of c.args.view.now.shown)) c.loop-k-2.k c.loop-k-2.invariant
    (λ line. none_some c.jumped.result c.in_default-jumped.is
    (c.jumped.ensures.reads (omega arith) (omega arith) line))

pub returns-clause-reads : goal.returns-clause-reads
returns-clause-reads c = λ live set_up replaced. absurd (elim replaced [
  | inl one ↦ c.loop-k.invariant one.0 one.1 (omega (arith, one.2, c.loop-k-test.false)) one.3
  | inr two ↦ c.loop-k-2.invariant two.0 two.1 (omega (arith, two.2, c.loop-k-2-test.false)) two.3
])
