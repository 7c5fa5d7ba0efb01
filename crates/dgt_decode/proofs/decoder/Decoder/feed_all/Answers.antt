use Rattle.{std.proofs.{Common.{rules}, lemmas.List.{take_all, take_rest}}, dgt_decode.proofs.{ChunkEvents.{heard_none, heard_one, heard_quiet}, Steps.{IsHeld-unfinished}}}
use Rattle.dgt_decode.proofs.decoder.Decoder.feed_all.Goals as goal

pub loop-at-init : goal.loop-at-init
loop-at-init g c =
    rw (← c.self.view_is) (heard_none _ _ _ _ (IsHeld-unfinished c.self.inside.framer))

pub loop-at-preserved-in-Some : goal.loop-at-preserved-in-Some
loop-at-preserved-in-Some g c =
    let call = rw (take_rest c.args.chunk.now c.loop-at.at) at c.advance-advanced.ensures in
    heard_one _ _ _ _ _ _ _ _ _ _ _ c.loop-at.invariant call.within (rw c.in-Some.is at call.first)
    call.held (rw (rw c.unwrap.ensures at c.event.ensures).1 at c.hear.ensures)

pub loop-at-preserved : goal.loop-at-preserved
loop-at-preserved g c =
    let call = rw (take_rest c.args.chunk.now c.loop-at.at) at c.advance-advanced.ensures in
    heard_quiet _ _ _ _ _ _ _ _ _ c.loop-at.invariant call.within (rw c.in_default.is at call.first)
    call.held

pub returns-clause-reported : goal.returns-clause-reported
returns-clause-reported g c = search (rules, take_all)

pub returns-clause-held : goal.returns-clause-held
returns-clause-held g c = search (rules, take_all)
