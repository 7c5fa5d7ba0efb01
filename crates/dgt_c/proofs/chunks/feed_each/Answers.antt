use Rattle.{std.proofs.{Common.{refl, sym, ◌∙◌, append-nil, rules}, lemmas.List.{take_rest}}, dgt_c.proofs.ChunkLemmas.{decoder, fed_in_chunks, heard_nothing, none_heard, one_heard, uses, uses_some}}
use Rattle.dgt_c.proofs.chunks.feed_each.Goals as goal

pub loop-decoder-init : goal.loop-decoder-init
loop-decoder-init c = search (rules, heard_nothing, append-nil)

pub loop-decoder-preserved-then-is_some : goal.loop-decoder-preserved-then-is_some
loop-decoder-preserved-then-is_some c =
    let call = rw (take_rest c.args.chunk.now c.loop-decoder.used) at c.feed.ensures in
    let after =
    rw (take_rest c.args.chunk.now c.loop-decoder.used) at c.feed.follows.holds-at-none in
    one_heard decoder c.events_append.ensures _ _ _ _ c.unfinished_is_part.ensures
    (fed_in_chunks c.unfinished_append.ensures) _ _ _ _ _ _ _ _ _ _ _ _ c.loop-decoder.invariant
    (c.loop-decoder-test.ensures.0 refl) call.first after
    (sym c.is_some.ensures ∙ c.if-is_some.true) c.report_at.ensures c.body_of-said.ensures
    c.overwrite.ensures

pub loop-decoder-preserved : goal.loop-decoder-preserved
loop-decoder-preserved c =
    let call = rw (take_rest c.args.chunk.now c.loop-decoder.used) at c.feed.ensures in
    let after =
    rw (take_rest c.args.chunk.now c.loop-decoder.used) at c.feed.follows.holds-at-none in
    none_heard decoder c.events_append.ensures _ _ _ _ (fed_in_chunks c.unfinished_append.ensures)
    _ _ _ _ _ _ _ _ _ c.loop-decoder.invariant (c.loop-decoder-test.ensures.0 refl) call.first
    after (sym c.is_some.ensures ∙ c.if-is_some.false)

pub returns-clause-uses : goal.returns-clause-uses
returns-clause-uses c = search (rules, uses, decoder)

pub returns-clause-progress : goal.returns-clause-progress
returns-clause-progress c = search (rules, uses_some, decoder, returns-clause-uses)
