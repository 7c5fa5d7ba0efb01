use Rattle.{std.proofs.Common.{append_assoc, rules}, dgt_lines.{specs.Lines.{message_text}, proofs.TextLemmas.{padded_one}}}
use Rattle.dgt_lines.proofs.wording.push_version.Goals as goal

pub returns-clause-text : goal.returns-clause-text
unfolding message_text
returns-clause-text g c = search (rules, padded_one, append_assoc)
