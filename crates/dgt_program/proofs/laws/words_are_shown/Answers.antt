use Rattle.{std.proofs.Common.{length-append, rules}, dgt_program.proofs.EndLemmas.{shows_nothing}}
use Rattle.dgt_program.proofs.laws.words_are_shown.Goals as goal

pub returns-clause-decoded : goal.returns-clause-decoded
returns-clause-decoded g c = search rules

pub returns-clause-odd : goal.returns-clause-odd
returns-clause-odd g c = search rules

pub returns-clause-all : goal.returns-clause-all
returns-clause-all g c = search (rules, length-append)

pub returns-clause-nothing : goal.returns-clause-nothing
returns-clause-nothing g c = shows_nothing
