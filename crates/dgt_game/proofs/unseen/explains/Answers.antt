use Rattle.{std.proofs.Common.{below_more}, dgt_values.specs.Board.{pieces_of}, dgt_game.specs.Results.{ExplainsAt}}
use Rattle.dgt_game.proofs.unseen.explains.Goals as goal

pub loop-at-preserved : goal.loop-at-preserved
loop-at-preserved c =
    let picture = pieces_of c.args.picture.now in
    let pieces = pieces_of c.args.position.now in
    below_more (λ k. ExplainsAt picture pieces k) c.loop-at.at c.loop-at.invariant
    (c.explains_at.ensures.0 c.if-not-explains_at.false)
