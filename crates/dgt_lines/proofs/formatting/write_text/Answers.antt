use Rattle.{std.proofs.Common.{length-append, rules}, hex.proofs.HexLemmas.{length-encode_with}}
use Rattle.dgt_lines.proofs.formatting.write_text.Goals as goal

pub returns-then-out-need-clause-text : goal.returns-then-out-need-clause-text
returns-then-out-need-clause-text c = search (rules, length-append, length-encode_with)
