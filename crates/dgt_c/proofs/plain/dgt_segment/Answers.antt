use Rattle.dgt_c.proofs.plain.dgt_segment.Goals as goal

pub returns-in-Err-clause-none : goal.returns-in-Err-clause-none
returns-in-Err-clause-none c = λ none. rw c.from.ensures at c.in-Err.ensures
