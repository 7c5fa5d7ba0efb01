use Rattle.dgt_board.proofs.SendingLemmas.{left-at_most}
use Rattle.dgt_board.proofs.boards.Board.poll.Goals as goal

pub returns-clause-bound : goal.returns-clause-bound
returns-clause-bound c = left-at_most c.args.self.now.state
