use Rattle.std.proofs.Common.{rules}
use Rattle.dgt_c.proofs.chess_texts.dgt_chess_san.Goals as goal

pub returns-in-Ok-clause-written : goal.returns-in-Ok-clause-written
returns-in-Ok-clause-written c = λ e.
    (_, _, _, c.in-Some.ensures.0.0, c.in-Some.ensures.1.0, c.in-Ok.ensures, search rules)
