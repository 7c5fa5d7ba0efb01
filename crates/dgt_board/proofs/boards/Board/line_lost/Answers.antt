use Rattle.dgt_board.proofs.boards.Board.line_lost.Goals as goal

pub invariant_of-self : goal.invariant_of-self
invariant_of-self c = rw c.reset.ensures c.parts_of_words.ensures.nothing
