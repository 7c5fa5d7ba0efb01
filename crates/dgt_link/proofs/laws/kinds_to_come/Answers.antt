use Rattle.{std.proofs.Common.{rules}, dgt_link.proofs.{Soundness.{ask-kinds, sending-kinds, taking-kinds}, Subsequences.{first_of_subsequence}}}
use Rattle.dgt_link.proofs.laws.kinds_to_come.Goals as goal

pub returns-clause-asked : goal.returns-clause-asked
returns-clause-asked c = ask-kinds

pub returns-clause-heard : goal.returns-clause-heard
returns-clause-heard c = λ x message later up. rw up (search rules)

pub returns-clause-taken : goal.returns-clause-taken
returns-clause-taken c = taking-kinds

pub returns-clause-sent : goal.returns-clause-sent
returns-clause-sent c = sending-kinds

pub returns-clause-in_order : goal.returns-clause-in_order
returns-clause-in_order c = first_of_subsequence
