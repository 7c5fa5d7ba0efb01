use Rattle.{dgt_values.specs.Board.{pieces_of}, dgt_game.proofs.Departing.{back, left}}
use Rattle.dgt_game.proofs.reach.is_far.Goals as goal

pub returns-then-leave_too_many : goal.returns-then-leave_too_many
returns-then-leave_too_many c = λ yes.
    let (kind, far) = c.leave_too_many.ensures c.if-leave_too_many.true in
    left c.args.state.now (pieces_of c.args.picture.now) c.args.halves kind far

pub returns : goal.returns
returns c = λ yes.
    let (colour, here) = c.has_pawn_back.ensures yes in
    back c.args.state.now (pieces_of c.args.picture.now) c.args.halves colour here
