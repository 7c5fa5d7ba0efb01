use Rattle.dgt_link.proofs.Counts.{dump_is_healing, given_up_is_in_turn, reading_is_healing}
use Rattle.dgt_link.proofs.healing.requests_count.Goals as goal

pub returns-clause-picture : goal.returns-clause-picture
returns-clause-picture c = dump_is_healing

pub returns-clause-awaited : goal.returns-clause-awaited
returns-clause-awaited c = given_up_is_in_turn

pub returns-clause-clock : goal.returns-clause-clock
returns-clause-clock c = reading_is_healing
