use Rattle.{std.proofs.Common.{◌≡◌, ◌++◌, take}, dgt_command.specs.Words.{IsPartial}}
use Rattle.dgt_command.proofs.framer.add_each.Given as goal

abbrev pub invariant-loop-i : goal.invariant-loop-i
invariant-loop-i l = record {
  read : l.word ≡ l.fn.word ++ take l.i l.chunk;
  partial : IsPartial l.word;
}
