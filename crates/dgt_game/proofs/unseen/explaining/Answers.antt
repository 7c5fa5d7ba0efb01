use Rattle.{dgt_values.specs.Board.{pieces_of}, dgt_game.proofs.Explaining.{all_from, next_from}}
use Rattle.dgt_game.proofs.unseen.explaining.Goals as goal

pub loop-from-preserved : goal.loop-from-preserved
loop-from-preserved c =
    next_from (pieces_of c.args.picture.now) c.args.state.now c.loop-from.from c.loop-from.found
    c.explaining_from.result c.add.new.self c.add.ensures c.loop-from.invariant
    c.explaining_from.ensures

pub returns : goal.returns
returns c =
    all_from (pieces_of c.args.picture.now) c.args.state.now c.loop-from.from c.loop-from.found
    c.loop-from-test.false c.loop-from.invariant
