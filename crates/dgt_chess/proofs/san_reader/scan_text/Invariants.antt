use Rattle.{std.proofs.Common.{◌≡◌, take}, dgt_chess.specs.Scanning.{scan}}
use Rattle.dgt_chess.proofs.san_reader.scan_text.Given as goal

abbrev pub invariant-loop-byte : goal.invariant-loop-byte
invariant-loop-byte l = l.scan ≡ scan (take l.byte-index l.text)
