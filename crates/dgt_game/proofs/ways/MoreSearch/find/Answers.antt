use Rattle.{std.specs.Prelude.{◌+◌, suc}, dgt_values.specs.Board.{pieces_of}, dgt_game.proofs.Sets.{all_from, next_from, several_ways}}
use Rattle.dgt_game.proofs.ways.MoreSearch.find.Goals as goal

pub loop-from-preserved : goal.loop-from-preserved
loop-from-preserved g c =
    next_from (suc g.S.Search.depth) c.args.state.now (pieces_of c.args.picture.now)
    c.loop-from.from c.loop-from.found c.ways_from.result c.add.new.self c.add.ensures
    c.loop-from.invariant c.ways_from.ensures

pub returns-then-is_several : goal.returns-then-is_several
returns-then-is_several g c =
    let state = c.args.state.now in
    let pieces = pieces_of c.args.picture.now in
    let more = next_from (suc g.S.Search.depth) state pieces c.loop-from.from c.loop-from.found
    c.ways_from.result c.add.new.self c.add.ensures c.loop-from.invariant c.ways_from.ensures in
    several_ways g.S.Search.depth state pieces (c.loop-from.from + 1) c.add.new.self
    (c.is_several.ensures.0 c.if-is_several.true) more

pub returns : goal.returns
returns g c =
    all_from g.S.Search.depth c.args.state.now (pieces_of c.args.picture.now) c.loop-from.from
    c.loop-from.found c.loop-from-test.false c.loop-from.invariant
