use Rattle.std.proofs.Common.{rules}
use Rattle.dgt_c.proofs.chess_texts.dgt_chess_fen.Goals as goal

pub returns-in-Some-clause-written : goal.returns-in-Some-clause-written
returns-in-Some-clause-written c = λ e.
    (_, c.fen.result.bytes, c.in-Some.ensures.0, c.fen.ensures, search rules)
