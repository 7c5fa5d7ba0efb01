use Rattle.{std.proofs.Common.{◌<◌, arith, length}, dgt_values.specs.Board.{pieces_of}, dgt_game.{specs.Reach.{has_arrived}, proofs.Counting.{one_more}}}
use Rattle.dgt_game.proofs.reach.arrivals.Goals as goal

pub loop-square-preserved : goal.loop-square-preserved
loop-square-preserved c =
    let olds = pieces_of c.args.old.now in
    let news = pieces_of c.args.new.now in
    let small : c.loop-square.square < length olds = omega (arith, c.pieces-olds.ensures.len) in
    let small' : c.loop-square.square < length news = omega (arith, c.pieces-news.ensures.len) in
    let more = one_more (has_arrived c.args.colour) olds news c.loop-square.square small small' in
    (grind arith, grind arith)
