use Rattle.{std.{proofs.Common.{◌≡◌, ◌∙◌, ap, arith, rules}, specs.Prelude.{suc}}, dgt_values.specs.Board.{pieces_of}, dgt_game.specs.{declared.ways.Ways.{Ways}, Ways.{both}}}
use Rattle.dgt_game.proofs.{Leaving.{vacant}, Promoting.{four, tells, unpromoted}}
use Rattle.dgt_game.proofs.ways.ways_over.Goals as goal

pub returns-then-is_same : goal.returns-then-is_same
returns-then-is_same g c =
    vacant g.S.Search.depth c.args.state.now (pieces_of c.args.picture.now) c.args.man c.args.from
    c.args.to (omega (arith, c.requires.depth)) c.requires.own (search rules) (search rules)

pub returns-then-not-is_promotion : goal.returns-then-not-is_promotion
returns-then-not-is_promotion g c =
    let state = c.args.state.now in
    let told = tells state c.args.man c.args.from c.args.to c.turn.result c.is_promotion.result
    c.requires.own c.turn.ensures c.is_promotion.ensures in
    unpromoted (suc g.S.Search.depth) state (pieces_of c.args.picture.now) c.args.from c.args.to
    c.ways_by.result c.is_promotion.result told c.if-not-is_promotion.true c.ways_by.ensures

pub returns : goal.returns
returns g c =
    let state = c.args.state.now in
    let pieces = pieces_of c.args.picture.now in
    let told = tells state c.args.man c.args.from c.args.to c.turn.result c.is_promotion.result
    c.requires.own c.turn.ensures c.is_promotion.ensures in
    let from = c.args.from in
    let to = c.args.to in
    let queen = c.ways_by-found.result in
    let rook = c.ways_by-2.result in
    let bishop = c.ways_by-3.result in
    let knight = c.ways_by-4.result in
    let all : c.add-3.new.self ≡ both (both (both queen rook) bishop) knight =
    c.add-3.ensures ∙ ap (λ (w : Ways). both w knight) (c.add-2.ensures
    ∙ ap (λ (w : Ways). both w bishop) c.add.ensures) in
    rw all (four (suc g.S.Search.depth) state pieces from to queen rook bishop knight
    c.is_promotion.result told c.if-not-is_promotion.false c.ways_by-found.ensures
    c.ways_by-2.ensures c.ways_by-3.ensures c.ways_by-4.ensures)
