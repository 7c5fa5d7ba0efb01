use Rattle.{std.proofs.Common.{rules}, dgt_c.proofs.EncodingLemmas.{no_case, no_clock, no_dump, no_message, other_said}}
use Rattle.dgt_c.proofs.encoding.read_message.Goals as goal

pub returns-in_default : goal.returns-in_default
returns-in_default c = no_message c.args.said.now c.args.body.now (search rules)

pub returns-in_err-read_position-in-1 : goal.returns-in_err-read_position-in-1
returns-in_err-read_position-in-1 c = search (rules, no_dump)

pub returns-in_err-times-in-3 : goal.returns-in_err-times-in-3
returns-in_err-times-in-3 c = search (rules, no_clock)

pub returns-in_err-absence-in-4 : goal.returns-in_err-absence-in-4
returns-in_err-absence-in-4 c = search (rules, no_clock)

pub returns-in_ok-read_body-in-11 : goal.returns-in_ok-read_body-in-11
returns-in_ok-read_body-in-11 c = search (rules, other_said, no_case)
