use Rattle.{std.proofs.Common.{◌≤◌, Some, ap, length, ◌∙◌, arith}, dgt_values.specs.declared.kinds.Kind.{Kind}, dgt_host.specs.Host.{HostView, host_awaiting}, dgt_follow.proofs.Slices.{anew_asks}}
use Rattle.dgt_follow.proofs.follower.begin_anew.Goals as goal

pub returns : goal.returns
returns c =
    let sent = rw c.unwrap-written.ensures at c.restart.ensures in
    let room : c.request_clock.result ≤ length c.args.out.now = omega arith in
    anew_asks c.args.mode c.code.result c.unwrap-written.result c.request_clock.result
    c.args.host.now _ c.args.out.now c.restart.new.out _ c.code.ensures sent.1 sent.3
    (sent.4 ∙ ap (λ (h : HostView). host_awaiting h (Some Kind.Dump))
    c.give_up_awaited.ensures.gives_up)
    c.request_clock.ensures.count room c.request_clock.ensures.follows
