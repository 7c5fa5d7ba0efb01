use Rattle.dgt_follow.proofs.{Confirms.{as_heard, confirm_nothing}, ManyCalls.{over_calls}}
use Rattle.dgt_follow.proofs.laws.confirmed_as_heard.Goals as goal

pub returns-clause-heard : goal.returns-clause-heard
returns-clause-heard c = as_heard

pub returns-clause-asked : goal.returns-clause-asked
returns-clause-asked c = confirm_nothing

pub returns-clause-called : goal.returns-clause-called
returns-clause-called c =
    over_calls c.events_append.ensures c.unfinished_append.ensures c.unfinished_is_quiet.ensures
    as_heard confirm_nothing
