use Rattle.{dgt_values.specs.Board.{pieces_of}, dgt_game.proofs.Far.{differing_counted}}
use Rattle.dgt_game.proofs.kings.count_differing.Goals as goal

pub returns : goal.returns
returns c =
    differing_counted (pieces_of c.args.shown.now)
    (pieces_of c.args.position.now) c.differ.result c.args.shown.now.all c.args.position.now.all
    c.differ.type_inv c.differ.ensures
