use Rattle.{std.proofs.Common.{◌<◌}, dgt_decode.{specs.Grammar.{unfinished_message}, proofs.{Loops.{HasTaken}, Steps.{IsHeld}}}}
use Rattle.dgt_decode.proofs.framer.Framer.take_bytes.Given as goal

abbrev pub invariant-loop-index : goal.invariant-loop-index
invariant-loop-index l =
    HasTaken (unfinished_message l.fn.self) l.bytes l.index (unfinished_message l.self)
    × (0 < l.index → IsHeld l.self)
