use Rattle.{dgt_values.specs.Board.{pieces_of, square_number}, dgt_game.proofs.HalfMoves.{arrives, is_legal, none, only}}
use Rattle.dgt_game.proofs.ways.half_move.Goals as goal

pub returns-in-Ok : goal.returns-in-Ok
returns-in-Ok c =
    let state = c.args.state.now in
    let pieces = pieces_of c.args.picture.now in
    let one = c.in-Some.one in
    let (man, legal, after) = c.in-Ok.ensures in
    let made = arrives state c.in-Ok.new pieces one man legal after c.in-Some.ensures in (
      made.0,
      made.1,
      only c.one_move_a_picture.ensures state pieces one c.in-Some.ensures,
    )

pub returns-in-Err : goal.returns-in-Err
returns-in-Err c =
    let one = c.in-Some.one in
    absurd (c.in-Err.ensures (is_legal c.args.state.now (pieces_of c.args.picture.now)
    (square_number one.from) (square_number one.to) one.promotion c.in-Some.ensures))

pub returns-in-None : goal.returns-in-None
returns-in-None c = none c.args.state.now (pieces_of c.args.picture.now) c.in-None.ensures
