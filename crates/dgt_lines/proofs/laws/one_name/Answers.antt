use Rattle.{std.proofs.Common.{append-nil, refl}, dgt_lines.proofs.{NameLaws.{one_name, one_text}, NamedLemmas.{each_is_named}}}
use Rattle.dgt_lines.proofs.laws.one_name.Goals as goal

pub returns-clause-name : goal.returns-clause-name
returns-clause-name c = one_name c.one_is_said.ensures c.one_is_meant.ensures.battery

pub returns-clause-some : goal.returns-clause-some
returns-clause-some c = each_is_named

pub returns-clause-once : goal.returns-clause-once
returns-clause-once c = one_text c.one_is_said.ensures c.one_is_meant.ensures.battery

pub returns-clause-without : goal.returns-clause-without
returns-clause-without c = λ x. simp append-nil refl
