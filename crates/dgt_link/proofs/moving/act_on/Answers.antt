use Rattle.dgt_link.specs.View.{world_of}
use Rattle.dgt_link.proofs.moving.act_on.Goals as goal

pub returns-in-Host : goal.returns-in-Host
returns-in-Host c =
    rw c.in-Host.is
    (c.ask.ensures (world_of c.args.board.now c.args.host.now c.args.up.now c.args.down.now))

pub returns-in-BoardSend : goal.returns-in-BoardSend
returns-in-BoardSend c = rw c.in-BoardSend.is (c.send_next.ensures.sends
    (world_of c.args.board.now c.args.host.now c.args.up.now c.args.down.now))

pub returns-in-ToBoard : goal.returns-in-ToBoard
returns-in-ToBoard c =
    rw c.in-ToBoard.is
    (c.to_board.ensures (world_of c.args.board.now c.args.host.now c.args.up.now c.args.down.now))

pub returns-in-ToHost : goal.returns-in-ToHost
returns-in-ToHost c =
    rw c.in-ToHost.is
    (c.to_host.ensures (world_of c.args.board.now c.args.host.now c.args.up.now c.args.down.now))
