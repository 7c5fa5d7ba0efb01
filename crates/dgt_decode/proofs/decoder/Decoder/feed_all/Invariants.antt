use Rattle.{std.proofs.Common.{length, ◌-◌}, dgt_decode.{specs.Grammar.{unfinished_message}, proofs.ChunkEvents.{HasHeard}}}
use Rattle.dgt_decode.proofs.decoder.Decoder.feed_all.Given as goal

abbrev pub invariant-loop-at : goal.invariant-loop-at
invariant-loop-at g l = HasHeard g.L.Listener.hears l.fn.self l.chunk l.at l.fn.listener l.listener
    (unfinished_message l.self-inside.framer)

abbrev pub decreases-loop-at : goal.decreases-loop-at
decreases-loop-at g l = length l.chunk - l.at
