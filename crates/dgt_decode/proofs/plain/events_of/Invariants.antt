use Rattle.{std.proofs.Common.{map, length, ◌-◌}, dgt_decode.{specs.Taking.{placed_content}, proofs.Cutting.{HasReported}}}
use Rattle.dgt_decode.proofs.plain.events_of.Given as goal

abbrev pub invariant-loop-start : goal.invariant-loop-start
invariant-loop-start l = HasReported l.bytes l.start (map placed_content l.reported.items)

abbrev pub decreases-loop-start : goal.decreases-loop-start
decreases-loop-start l = length l.bytes - l.start
