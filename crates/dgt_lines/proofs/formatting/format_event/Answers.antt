use Rattle.{std.proofs.Common.{append-nil, rules}, dgt_lines.proofs.HexLemmas.{encode_lower-nil}}
use Rattle.dgt_lines.proofs.formatting.format_event.Goals as goal

pub returns-in-None-clause-text : goal.returns-in-None-clause-text
returns-in-None-clause-text c = search (rules, encode_lower-nil, append-nil)

pub returns-in-Some-clause-text : goal.returns-in-Some-clause-text
returns-in-Some-clause-text c = search rules
