use Rattle.dgt_followed.proofs.Calls.{ask_happens, hear_happens, send_happens, set_happens}
use Rattle.dgt_followed.proofs.calls_are_happenings.Goals as goal

pub returns-clause-ask : goal.returns-clause-ask
returns-clause-ask c = ask_happens

pub returns-clause-hear : goal.returns-clause-hear
returns-clause-hear c =
    hear_happens c.hearing_is_the_hosts.ensures.host c.hearing_is_the_hosts.ensures.pace

pub returns-clause-send : goal.returns-clause-send
returns-clause-send c = send_happens

pub returns-clause-set : goal.returns-clause-set
returns-clause-set c = set_happens
