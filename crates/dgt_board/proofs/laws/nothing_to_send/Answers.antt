use Rattle.dgt_board.{specs.Sending.{pending_messages}, proofs.SendingLemmas.{none_first, none_owed}}
use Rattle.dgt_board.proofs.laws.nothing_to_send.Goals as goal

pub returns-clause-nothing_left : goal.returns-clause-nothing_left
returns-clause-nothing_left c = λ board. none_first (pending_messages board)

pub returns-clause-none_owed : goal.returns-clause-none_owed
returns-clause-none_owed c = none_owed
