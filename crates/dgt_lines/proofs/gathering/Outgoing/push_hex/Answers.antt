use Rattle.{std.proofs.Common.{append-nil, append_assoc, rules}, dgt_lines.proofs.HexLemmas.{encode_lower-nil, encode_lower-take}}
use Rattle.dgt_lines.proofs.gathering.Outgoing.push_hex.Goals as goal

pub loop-byte-init : goal.loop-byte-init
loop-byte-init g c = search (rules, encode_lower-nil, append-nil)

pub loop-byte-preserved : goal.loop-byte-preserved
loop-byte-preserved g c = search (rules, append_assoc, encode_lower-take)
