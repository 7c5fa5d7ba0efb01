use Rattle.dgt_lines.proofs.laws.what_monitor_leaves.Goals as goal

pub returns-clause-whole : goal.returns-clause-whole
returns-clause-whole c bytes out is = is

pub returns-clause-read_failed : goal.returns-clause-read_failed
returns-clause-read_failed c bytes out is = is

pub returns-clause-too_many_turns : goal.returns-clause-too_many_turns
returns-clause-too_many_turns c bytes out is = is

pub returns-clause-write_failed : goal.returns-clause-write_failed
returns-clause-write_failed c bytes out is = is

pub returns-clause-no_bad_line : goal.returns-clause-no_bad_line
returns-clause-no_bad_line c bytes out line at is = is
