use Rattle.{std.proofs.Common.{append_assoc, codes, rules}, dgt_lines.specs.Lines.{message_text}}
use Rattle.dgt_lines.proofs.wording.push_dump.Goals as goal

pub returns-clause-text : goal.returns-clause-text
unfolding message_text
returns-clause-text g c = search (rules, append_assoc, codes)
