use Rattle.{std.proofs.Common.{rules}, dgt_lines.proofs.DecimalLemmas.{padded_word}}
use Rattle.dgt_lines.proofs.lines.eight_digits.Goals as goal

pub returns : goal.returns
returns c = search (rules, padded_word)
