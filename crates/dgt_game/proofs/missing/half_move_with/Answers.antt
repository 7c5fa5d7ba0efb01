use Rattle.{dgt_values.specs.Board.{pieces_of}, dgt_game.proofs.Gone.{leads_whole, moves_with}}
use Rattle.dgt_game.proofs.missing.half_move_with.Goals as goal

pub returns-then-is_far : goal.returns-then-is_far
returns-then-is_far c = λ small.
    leads_whole c.args.state.now (pieces_of c.args.picture.now) (pieces_of c.in_ok-whole.whole)
    c.args.at (c.in_ok-whole.ensures small).1 (c.is_far.ensures c.if-is_far.true)

pub returns : goal.returns
returns c = λ small.
    moves_with c.args.state.now (pieces_of c.args.picture.now) (pieces_of c.in_ok-whole.whole)
    c.args.at c.half_move.result small c.args.picture.now.all (c.in_ok-whole.ensures small).0
    (c.in_ok-whole.ensures small).1 c.half_move.ensures
