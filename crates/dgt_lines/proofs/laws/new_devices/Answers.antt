use Rattle.std.proofs.Common.{ap}
use Rattle.dgt_lines.proofs.laws.new_devices.Goals as goal

pub returns-clause-left : goal.returns-clause-left
returns-clause-left g c device inner new = ap g.T.Read.remaining new.over

pub returns-clause-written : goal.returns-clause-written
returns-clause-written g c device inner new = ap g.T.Write.contents new.over

pub returns-clause-failed : goal.returns-clause-failed
returns-clause-failed g c device inner new = (new.not_failed, new.not_failed)

pub returns-clause-ended : goal.returns-clause-ended
returns-clause-ended g c device inner new = new.not_ended

pub returns-clause-reads : goal.returns-clause-reads
returns-clause-reads g c device inner new = new.unread

pub returns-clause-flushed : goal.returns-clause-flushed
returns-clause-flushed g c device inner new = new.flushed

pub returns-clause-late : goal.returns-clause-late
returns-clause-late g c device inner new = (new.in_time, new.in_time)
