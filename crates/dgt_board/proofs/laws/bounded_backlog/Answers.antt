use Rattle.dgt_board.proofs.BacklogLemmas.{backlog-at_most, backlog_lowers, effects_raise}
use Rattle.dgt_board.proofs.laws.bounded_backlog.Goals as goal

pub returns : goal.returns
returns c = record { bound = backlog-at_most; falls = backlog_lowers; rises = effects_raise }
