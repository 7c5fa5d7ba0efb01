use Rattle.{std.{proofs.Common.{arith, refl, rules}, specs.Prelude.{◌+◌, suc}}, dgt_values.specs.Board.{pieces_of}, dgt_game.{specs.declared.ways.Ways.TheVariants.{Nothing}, proofs.Leaving.{kept}}}
use Rattle.dgt_game.proofs.{Leaving.{no_goal, no_man}, Sets.{all_goals, further, several_from}, ways.ways_from.Goals.{then-has+else-is_several, else-has}}
use Rattle.dgt_game.proofs.ways.ways_from.Goals as goal

pub returns-in_default : goal.returns-in_default
returns-in_default g c =
    no_man g.S.Search.depth c.args.state.now (pieces_of c.args.picture.now) c.args.from
    (search rules)

pub returns-then-is_same : goal.returns-then-is_same
returns-then-is_same g c =
    kept g.S.Search.depth c.args.state.now (pieces_of c.args.picture.now) c.args.from
    (omega (arith, c.requires.depth)) (search rules)

pub loop-to-preserved : goal.loop-to-preserved
loop-to-preserved g c =
    let state = c.args.state.now in
    let pieces = pieces_of c.args.picture.now in
    let halves = suc g.S.Search.depth in
    let to = c.loop-to.to in
    elim c.if-has.branch [
      | then-has+else-is_several w ↦ rw w.found-is
          (further halves state pieces c.args.from to c.loop-to.found w.ways_over.result
          w.add.new.self w.add.ensures c.loop-to.invariant w.ways_over.ensures)
      | else-has w ↦ rw w.found-is
          (further halves state pieces c.args.from to c.loop-to.found Nothing c.loop-to.found refl
          c.loop-to.invariant (no_goal g.S.Search.depth state pieces c.args.from to (search rules)))
    ]

pub returns-then-is_several : goal.returns-then-is_several
returns-then-is_several g c =
    let state = c.args.state.now in
    let pieces = pieces_of c.args.picture.now in
    let more = further (suc g.S.Search.depth) state pieces c.args.from c.loop-to.to
    c.loop-to.found c.ways_over.result c.add.new.self c.add.ensures c.loop-to.invariant
    c.ways_over.ensures in
    several_from (suc g.S.Search.depth) state pieces c.args.from (c.loop-to.to + 1) c.add.new.self
    (c.is_several.ensures.0 c.if-is_several.true) more

pub returns : goal.returns
returns g c =
    all_goals (suc g.S.Search.depth) c.args.state.now (pieces_of c.args.picture.now) c.args.from
    c.loop-to.to c.loop-to.found c.loop-to-test.false c.loop-to.invariant
