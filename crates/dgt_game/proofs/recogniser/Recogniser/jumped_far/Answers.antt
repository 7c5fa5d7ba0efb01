use Rattle.dgt_game.proofs.recogniser.Recogniser.jumped_far.Goals as goal

pub returns-clause-reads : goal.returns-clause-reads
returns-clause-reads c = λ place live behind some few line.
    c.jumped.ensures.reads some few (rw place line)
