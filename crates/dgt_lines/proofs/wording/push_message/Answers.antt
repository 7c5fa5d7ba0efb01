use Rattle.{std.proofs.Common.{append_assoc, rules}, dgt_lines.specs.Lines.{message_text}}
use Rattle.dgt_lines.proofs.wording.push_message.Goals as goal

pub returns-in-Other-clause-text : goal.returns-in-Other-clause-text
unfolding message_text
returns-in-Other-clause-text g c = search (rules, append_assoc)

pub returns-clause-text : goal.returns-clause-text
unfolding message_text
returns-clause-text g c = search rules
