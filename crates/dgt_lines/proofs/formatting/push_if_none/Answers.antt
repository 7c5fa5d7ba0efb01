use Rattle.{std.proofs.{Common.{append-nil, rules}, lemmas.Bool.{eqb-true}}, dgt_lines.proofs.HexLemmas.{encode_lower-nil}}
use Rattle.dgt_lines.proofs.formatting.push_if_none.Goals as goal

pub returns-then-is_empty : goal.returns-then-is_empty
returns-then-is_empty c = search (rules, eqb-true, encode_lower-nil, append-nil)
