use Rattle.{std.proofs.Common.{append_assoc, rules}, dgt_lines.proofs.TextLemmas.{padded_one}}
use Rattle.dgt_lines.proofs.command_wording.push_clock.Goals as goal

pub returns-in-Beep-clause-text : goal.returns-in-Beep-clause-text
returns-in-Beep-clause-text g c = search (rules, padded_one, append_assoc)
