use Rattle.{std.proofs.Common.{length, ◌-◌}, dgt_c.proofs.ChunkLemmas.{HasHeard, host}}
use Rattle.dgt_c.proofs.chunks.hear_each.Given as goal

abbrev pub invariant-loop-host : goal.invariant-loop-host
invariant-loop-host l =
    HasHeard host l.fn.host l.host l.chunk l.used l.count l.fn.reported l.reported l.body_len
    l.fn.body l.body

abbrev pub decreases-loop-host : goal.decreases-loop-host
decreases-loop-host l = length l.chunk - l.used
