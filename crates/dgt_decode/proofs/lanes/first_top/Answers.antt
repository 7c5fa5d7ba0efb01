use Rattle.{std.proofs.Common.{rules, length, ◌-◌}, dgt_decode.{specs.Grammar.{has_top_bit}, proofs.Chunks.{first_within, first_past, first_in_last, passed_before}}}
use Rattle.dgt_decode.proofs.lanes.first_top.Goals as goal

pub returns-then-run-lt-LANES : goal.returns-then-run-lt-LANES
returns-then-run-lt-LANES c = search (rules, first_within)

pub loop-at-preserved : goal.loop-at-preserved
loop-at-preserved c = search (rules, first_past)

pub returns-then-bytes-ge-LANES : goal.returns-then-bytes-ge-LANES
returns-then-bytes-ge-LANES c =
    let last = length c.args.bytes.now - 32 in
    let anew = passed_before has_top_bit c.args.bytes.now c.loop-at.at last in
    search (rules, anew, first_in_last)
