use Rattle.{std.proofs.Common.{◌≡◌, ◌++◌, drop, map, take}, dgt_c.specs.Kinds.{asking_code}}
use Rattle.dgt_c.proofs.looking.put_kinds.Given as goal

abbrev pub invariant-loop-index : goal.invariant-loop-index
invariant-loop-index l =
    l.codes ≡ map asking_code (take l.index l.kinds) ++ drop l.index l.initial.codes
