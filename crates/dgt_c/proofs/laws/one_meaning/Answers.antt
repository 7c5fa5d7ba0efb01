use Rattle.dgt_c.proofs.OnceLemmas.{clocks_are_in_range, identities_are_in_range, one_clock, one_start}
use Rattle.dgt_c.proofs.laws.one_meaning.Goals as goal

pub returns-clause-clock : goal.returns-clause-clock
returns-clause-clock c = one_clock

pub returns-clause-times : goal.returns-clause-times
returns-clause-times c = clocks_are_in_range

pub returns-clause-start : goal.returns-clause-start
returns-clause-start c = one_start c.one_piece_a_code.ensures

pub returns-clause-identity : goal.returns-clause-identity
returns-clause-identity c = identities_are_in_range
