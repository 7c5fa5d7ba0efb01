use Rattle.{std.proofs.Common.{rules, arith}, dgt_values.specs.Board.{pieces_of}, dgt_game.proofs.Turning.{turned_first, turned_next}}
use Rattle.dgt_game.proofs.view.turned.Goals as goal

pub loop-at-init : goal.loop-at-init
loop-at-init c = (turned_first (pieces_of c.args.position.now) c.args.position.now.all, omega arith)

pub loop-at-preserved : goal.loop-at-preserved
loop-at-preserved c = search (rules, turned_next)
