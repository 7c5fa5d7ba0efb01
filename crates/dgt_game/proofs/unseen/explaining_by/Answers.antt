use Rattle.{dgt_values.specs.Board.{pieces_of}, dgt_chess.specs.declared.state.Move.{Move}, std.proofs.Common.{refl}}
use Rattle.dgt_game.proofs.{HalfMoves.{is_move}, Explaining.{illegal, none_found, one_found, unexplained, unexplained_by}}
use Rattle.dgt_game.proofs.unseen.explaining_by.Goals as goal

pub returns-then-explains : goal.returns-then-explains
returns-then-explains c =
    let picture = pieces_of c.args.picture.now in
    let one : Move = record {
      from = c.from_small.result;
      to = c.from_small-2.result;
      promotion = c.args.promotion;
    } in
    let (man, legal, after) = c.in-Ok.ensures in
    one_found picture c.args.state.now c.args.from c.args.to c.args.promotion one c.in-Ok.new
    (c.from_small.ensures.small c.requires.from) (c.from_small-2.ensures.small c.requires.to) refl (
      is_move c.args.state.now one c.in-Ok.new man legal after,
      rw c.position.ensures at (c.explains.ensures.0 c.if-explains.true),
    )

pub returns-else-explains : goal.returns-else-explains
returns-else-explains c =
    let picture = pieces_of c.args.picture.now in
    let one : Move = record {
      from = c.from_small.result;
      to = c.from_small-2.result;
      promotion = c.args.promotion;
    } in
    let (man, legal, after) = c.in-Ok.ensures in
    none_found picture c.args.state.now c.args.from c.args.to c.args.promotion one
    (c.from_small.ensures.small c.requires.from) (c.from_small-2.ensures.small c.requires.to) refl
    (unexplained picture c.args.state.now one c.in-Ok.new
    (is_move c.args.state.now one c.in-Ok.new man legal after)
    (unexplained_by c.explains.result picture picture c.position.result.now c.in-Ok.new
    c.if-explains.false c.explains.ensures refl c.position.ensures))

pub returns-in-Err : goal.returns-in-Err
returns-in-Err c =
    let picture = pieces_of c.args.picture.now in
    let one : Move = record {
      from = c.from_small.result;
      to = c.from_small-2.result;
      promotion = c.args.promotion;
    } in
    none_found picture c.args.state.now c.args.from c.args.to c.args.promotion one
    (c.from_small.ensures.small c.requires.from) (c.from_small-2.ensures.small c.requires.to) refl
    (illegal picture c.args.state.now one c.in-Err.ensures)
