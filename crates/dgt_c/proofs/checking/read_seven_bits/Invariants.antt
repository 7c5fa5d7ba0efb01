use Rattle.{std.proofs.Common.{◌≡◌, length, map, take}, dgt_values.specs.Bytes.{number}}
use Rattle.dgt_c.proofs.checking.read_seven_bits.Given as goal

abbrev pub invariant-loop-index : goal.invariant-loop-index
invariant-loop-index g l = record {
  read : take l.index l.bytes ≡ take l.index (map number l.read);
  all : length l.read ≡ length l.bytes;
}
