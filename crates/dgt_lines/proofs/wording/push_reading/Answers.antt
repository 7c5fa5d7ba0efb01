use Rattle.{std.proofs.{Common.{append_assoc, rules}, lemmas.Fmt.{decimal_digit}}, dgt_lines.specs.Lines.{reading_text}}
use Rattle.dgt_lines.proofs.wording.push_reading.Goals as goal

pub returns-clause-text : goal.returns-clause-text
unfolding reading_text
returns-clause-text g c = search (rules, decimal_digit, append_assoc)
