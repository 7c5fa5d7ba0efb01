use Rattle.dgt_c.proofs.OnceLemmas.{one_feed, one_hearing, one_report_each, one_use, room_is_left}
use Rattle.dgt_c.proofs.laws.one_report.Goals as goal

pub returns-clause-feed : goal.returns-clause-feed
returns-clause-feed c = one_feed c.one_first_event.ensures

pub returns-clause-hearing : goal.returns-clause-hearing
returns-clause-hearing c = one_hearing c.one_first_event.ensures

pub returns-clause-used : goal.returns-clause-used
returns-clause-used c = one_use

pub returns-clause-room : goal.returns-clause-room
returns-clause-room c = room_is_left

pub returns-clause-each : goal.returns-clause-each
returns-clause-each c = one_report_each
