use Rattle.{std.proofs.Common.{◌≡◌, ◌+◌, ◌*◌, ◌++◌, codes, length, take}, dgt_lines.proofs.TextLemmas.{spaced_text}}
use Rattle.dgt_lines.proofs.wording.push_ack.Given as goal

abbrev pub invariant-loop-byte : goal.invariant-loop-byte
invariant-loop-byte g l = record {
  text : l.text ≡ l.fn.text ++ (codes "ack" ++ spaced_text (take l.byte-index l.byte-items));
  len : length l.text ≡ length l.fn.text + (3 + 3 * l.byte-index);
}
