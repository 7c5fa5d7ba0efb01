use Rattle.{std.proofs.Common.{arith, below_more}, dgt_values.specs.Board.{pieces_of, square_number}, dgt_game.proofs.Planning.{StandsAt, stands_at}}
use Rattle.dgt_game.proofs.reading.lacks_only.Goals as goal

pub loop-at-preserved : goal.loop-at-preserved
loop-at-preserved c =
    let picture = pieces_of c.args.shown.now in
    let state = c.args.state.now in
    let square = square_number c.from_small-square.result in
    let new = c.get.result in
    let old = c.get-in-loop-at.result in
    below_more (λ k. StandsAt picture state k) c.loop-at.at c.loop-at.invariant
    ((stands_at picture state square c.loop-at.at new old
    (c.from_small-square.ensures.small (omega (arith, c.loop-at-test.true))) c.get.ensures.piece
    (rw c.position.ensures at c.get-in-loop-at.ensures.piece)).0
    (c.is_same_or_gone.ensures.0 c.if-not-is_same_or_gone.false))

pub returns-then-not-is_same_or_gone : goal.returns-then-not-is_same_or_gone
returns-then-not-is_same_or_gone c =
    let picture = pieces_of c.args.shown.now in
    let state = c.args.state.now in
    let square = square_number c.from_small-square.result in
    let new = c.get.result in
    let old = c.get-in-loop-at.result in (
      λ no. absurd (cc),
      λ all. let wrong = c.is_same_or_gone.ensures.1 ((stands_at picture state square c.loop-at.at
          new old (c.from_small-square.ensures.small (omega (arith, c.loop-at-test.true)))
          c.get.ensures.piece (rw c.position.ensures at c.get-in-loop-at.ensures.piece)).1
          (all c.loop-at.at (omega (arith, c.loop-at-test.true)))) in
          absurd (cc),
    )
