use Rattle.{std.proofs.Common.{◌≤◌, length, arith}, dgt_follow.proofs.Slices.{heartbeat_asks}}
use Rattle.dgt_follow.proofs.follower.heartbeat.Goals as goal

pub returns : goal.returns
returns c =
    let sent = rw c.unwrap.ensures at c.follow.ensures in
    let room : c.request_clock.result ≤ length c.args.out.now = omega arith in
    heartbeat_asks c.args.mode c.code.result c.unwrap.result c.request_clock.result c.args.host.now
    _ c.args.out.now
    c.follow.new.out _ c.code.ensures sent.1 sent.3 sent.4 c.request_clock.ensures.count room
    c.request_clock.ensures.follows
