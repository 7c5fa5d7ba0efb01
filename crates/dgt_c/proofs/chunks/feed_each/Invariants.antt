use Rattle.{std.proofs.Common.{length, ◌-◌}, dgt_c.proofs.ChunkLemmas.{HasHeard, decoder}}
use Rattle.dgt_c.proofs.chunks.feed_each.Given as goal

abbrev pub invariant-loop-decoder : goal.invariant-loop-decoder
invariant-loop-decoder l =
    HasHeard decoder l.fn.decoder l.decoder l.chunk l.used l.count l.fn.reported l.reported
    l.body_len l.fn.body l.body

abbrev pub decreases-loop-decoder : goal.decreases-loop-decoder
decreases-loop-decoder l = length l.chunk - l.used
