use Rattle.{std.proofs.{Common.{◌+◌, refl, arith}, lemmas.List.{length-drop, take_rest}}, dgt_decode.proofs.Cutting.{IsSegment-next, next_segment, reported_lead, reported_segment}}
use Rattle.dgt_decode.proofs.plain.events_of.Goals as goal

pub loop-start-init : goal.loop-start-init
loop-start-init c =
    reported_lead _ _ _ c.lead_length-start.ensures.within c.lead_length-start.ensures.is_lead
    (rw c.new-reported.ensures.items at c.in_ok-push_strays.ensures)

pub push_segment-requires-clause-is_segment : goal.push_segment-requires-clause-is_segment
push_segment-requires-clause-is_segment c =
    let after = c.loop-start.start + 1 in
    IsSegment-next _ _ _ _ (next_segment _ _ _ _ c.loop-start.invariant c.loop-start-test.true
    (rw (take_rest c.args.bytes.now after) at c.lead_length.ensures.is_lead)
    (rw (take_rest c.args.bytes.now after) at c.lead_length.ensures.within))

pub loop-start-preserved : goal.loop-start-preserved
loop-start-preserved c =
    let after = c.loop-start.start + 1 in
    let bytes = c.args.bytes.now in
    let within = rw (take_rest bytes after) at c.lead_length.ensures.within in
    reported_segment _ _ _ _ _ _ _ c.loop-start.invariant c.loop-start-test.true
    (next_segment _ _ _ _ c.loop-start.invariant c.loop-start-test.true
    (rw (take_rest bytes after) at c.lead_length.ensures.is_lead) within) refl
    (omega (arith, within, length-drop after bytes)) c.in_ok-push_segment.ensures
