use Rattle.{std.proofs.Common.{arith, below_more}, dgt_values.specs.Board.{pieces_of, square_number}, dgt_game.proofs.Hands.{LacksAt, lacks_at}}
use Rattle.dgt_game.proofs.reading.is_held.Goals as goal

pub loop-at-preserved : goal.loop-at-preserved
loop-at-preserved c =
    let picture = pieces_of c.args.shown.now in
    let state = c.args.state.now in
    let square = square_number c.from_small-square.result in
    let new = c.get.result in
    let old = c.get-in-loop-at.result in
    below_more (λ k. LacksAt picture state k) c.loop-at.at c.loop-at.invariant
    (lacks_at picture state square c.loop-at.at new old
    (c.from_small-square.ensures.small (omega (arith, c.loop-at-test.true))) c.get.ensures.piece
    (rw c.position.ensures at c.get-in-loop-at.ensures.piece)
    (rw c.turn.ensures at (c.may_lack.ensures c.if-not-may_lack.false)))
