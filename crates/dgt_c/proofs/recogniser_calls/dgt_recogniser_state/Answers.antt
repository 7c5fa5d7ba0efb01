use Rattle.{std.proofs.Common.{sym}, dgt_c.proofs.GameLemmas.{known_last, none_last}}
use Rattle.dgt_c.proofs.recogniser_calls.dgt_recogniser_state.Goals as goal

pub returns-in-Some-clause-last : goal.returns-in-Some-clause-last
returns-in-Some-clause-last c =
    rw (sym c.get.ensures.value)
    (known_last _ _ _ _ c.in-Some.ensures.last c.state_for_c.ensures)

pub returns-in-None-clause-last : goal.returns-in-None-clause-last
returns-in-None-clause-last c =
    rw (sym c.get.ensures.value) (none_last _ _ c.in-None.ensures.last)
