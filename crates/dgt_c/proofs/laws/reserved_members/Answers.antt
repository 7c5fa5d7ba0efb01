use Rattle.dgt_c.proofs.ReservedLemmas.{commands_reserve_zeros, reports_reserve_zeros, views_reserve_zeros}
use Rattle.dgt_c.proofs.laws.reserved_members.Goals as goal

pub returns-clause-reports : goal.returns-clause-reports
returns-clause-reports c = reports_reserve_zeros

pub returns-clause-views : goal.returns-clause-views
returns-clause-views c = views_reserve_zeros

pub returns-clause-commands : goal.returns-clause-commands
returns-clause-commands c = commands_reserve_zeros
