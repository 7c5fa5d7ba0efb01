use Rattle.{std.proofs.Common.{take}, dgt_decode.proofs.SevenBit.{SevenByRecursion}}
use Rattle.dgt_decode.proofs.plain.lead_length.Given as goal

abbrev pub invariant-loop-index : goal.invariant-loop-index
invariant-loop-index l = SevenByRecursion (take l.index l.bytes)
