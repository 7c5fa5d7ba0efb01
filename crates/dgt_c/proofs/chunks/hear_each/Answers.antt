use Rattle.{std.proofs.{Common.{refl, sym, ◌∙◌, arith, rules}, lemmas.{Grind.{common_steps}, List.{take_rest}}}, dgt_c.proofs.ChunkLemmas.{heard_nothing, host, none_heard, one_heard, uses, uses_some}}
use Rattle.dgt_c.proofs.chunks.hear_each.Goals as goal

pub loop-host-init : goal.loop-host-init
loop-host-init c = grind (arith, common_steps, heard_nothing, host)

pub loop-host-preserved-then-is_some : goal.loop-host-preserved-then-is_some
loop-host-preserved-then-is_some c =
    let call = rw (take_rest c.args.chunk.now c.loop-host.used) at c.hear.ensures in
    let after = rw (take_rest c.args.chunk.now c.loop-host.used) at c.hear.follows.holds-at-none in
    one_heard host c.events_append.ensures _ _ _ _ c.unfinished_is_part.ensures
    c.heard_in_chunks.ensures _ _ _ _ _ _ _ _ _ _ _ _ c.loop-host.invariant
    (c.loop-host-test.ensures.0 refl) call.first after (sym c.is_some.ensures ∙ c.if-is_some.true)
    (c.hear.result.unasked, call.unasked, c.report_heard.ensures) c.body_of-said.ensures
    c.overwrite.ensures

pub loop-host-preserved : goal.loop-host-preserved
loop-host-preserved c =
    let call = rw (take_rest c.args.chunk.now c.loop-host.used) at c.hear.ensures in
    let after = rw (take_rest c.args.chunk.now c.loop-host.used) at c.hear.follows.holds-at-none in
    none_heard host c.events_append.ensures _ _ _ _ c.heard_in_chunks.ensures _ _ _ _ _ _ _ _ _
    c.loop-host.invariant (c.loop-host-test.ensures.0 refl) call.first after
    (sym c.is_some.ensures ∙ c.if-is_some.false)

pub returns-clause-uses : goal.returns-clause-uses
returns-clause-uses c = search (rules, uses, host)

pub returns-clause-progress : goal.returns-clause-progress
returns-clause-progress c = search (rules, uses_some, host, returns-clause-uses)
