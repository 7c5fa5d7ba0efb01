use Rattle.{std.proofs.{Common.{rules, arith}, lemmas.List.{length-take}}, dgt_decode.proofs.{BodyRuns.{body_run, frames-body_run}, Bytes.{held_total}, Framing.{closed}, Loops.{prefix_of_prefix}}}
use Rattle.dgt_decode.proofs.framer.Framer.take_run.Goals as goal

pub append_run-used-requires : goal.append_run-used-requires
append_run-used-requires c = search (rules, held_total)

pub overflow_sub-left : goal.overflow_sub-left
overflow_sub-left c =
    (body_run c.in-Body.left _ c.args.rest.now (omega arith) c.requires c.if-rest-lt-TOP_BIT.true
    c.append_run-used.ensures.count).fits

pub invariant_of-self : goal.invariant_of-self
invariant_of-self c =
    let run =
    body_run c.in-Body.left _ c.args.rest.now (omega arith) c.requires c.if-rest-lt-TOP_BIT.true
    c.append_run-used.ensures.count in
    rw (c.after_byte-state.ensures, c.append_run-used.ensures.appended)
    (frames-body_run _ _ c.args.rest.now c.in-Body.left _ c.self.invariant c.in-Body.is run).1

pub returns-in-Body : goal.returns-in-Body
returns-in-Body c =
    let run =
    body_run c.in-Body.left _ c.args.rest.now (omega arith) c.requires c.if-rest-lt-TOP_BIT.true
    c.append_run-used.ensures.count in
    rw (← c.self.view_is, c.after_byte-state.ensures, c.append_run-used.ensures.appended)
    (frames-body_run _ _ c.args.rest.now c.in-Body.left _ c.self.invariant c.in-Body.is run).0

pub take_beginning-requires-clause-closed : goal.take_beginning-requires-clause-closed
take_beginning-requires-clause-closed c = search (rules, closed)

pub take_bytes-requires : goal.take_bytes-requires
take_bytes-requires c = search (rules, length-take)

pub returns : goal.returns
returns c = search (rules, prefix_of_prefix)
