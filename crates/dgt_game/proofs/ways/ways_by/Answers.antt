use Rattle.{std.specs.Prelude.{suc}, dgt_values.specs.Board.{pieces_of}, dgt_chess.specs.declared.state.Move.{Move}, dgt_game.specs.declared.ways.Ways.TheVariants.{Nothing}}
use Rattle.dgt_game.proofs.{HalfMoves.{is_move, made_by}, Sets.{after_move, by_parts, no_move}}
use Rattle.dgt_game.proofs.ways.ways_by.Goals as goal

pub returns-in-Ok : goal.returns-in-Ok
returns-in-Ok g c =
    let state = c.args.state.now in
    let pieces = pieces_of c.args.picture.now in
    let depth = g.S.Search.depth in
    let one : Move = record {
      from = c.from_small.result;
      to = c.from_small-2.result;
      promotion = c.args.promotion;
    } in
    let (man, legal, after) = c.in-Ok.ensures in
    let move = is_move state one c.in-Ok.next man legal after in
    by_parts (suc depth) state pieces one c.args.from c.args.to c.after.result
    (c.from_small.ensures.small c.requires.from) (c.from_small-2.ensures.small c.requires.to)
    (after_move depth state c.in-Ok.next pieces one c.find.result c.after.result c.after.ensures
    move c.find.ensures)

pub returns-in-Err : goal.returns-in-Err
returns-in-Err g c =
    let state = c.args.state.now in
    let pieces = pieces_of c.args.picture.now in
    let depth = g.S.Search.depth in
    let one : Move = record {
      from = c.from_small.result;
      to = c.from_small-2.result;
      promotion = c.args.promotion;
    } in
    by_parts (suc depth) state pieces one c.args.from c.args.to Nothing
    (c.from_small.ensures.small c.requires.from) (c.from_small-2.ensures.small c.requires.to)
    (no_move depth state pieces one (λ next move. c.in-Err.ensures (made_by state one next move)))
