use Rattle.{std.proofs.Common.{append_assoc, rules}, dgt_lines.proofs.TextLemmas.{padded_one}}
use Rattle.dgt_lines.proofs.wording.push_place.Goals as goal

pub returns-clause-text : goal.returns-clause-text
returns-clause-text g c = search (rules, padded_one, append_assoc)
