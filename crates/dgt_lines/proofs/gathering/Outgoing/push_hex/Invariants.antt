use Rattle.{std.proofs.Common.{◌≡◌, ◌+◌, ◌*◌, ◌++◌, length, take}, hex.specs.Hex.{encode_lower}}
use Rattle.dgt_lines.proofs.gathering.Outgoing.push_hex.Given as goal

abbrev pub invariant-loop-byte : goal.invariant-loop-byte
invariant-loop-byte g l = record {
  text : l.self ≡ l.fn.self ++ encode_lower (take l.byte-index l.bytes);
  len : length l.self ≡ length l.fn.self + 2 * l.byte-index;
}
