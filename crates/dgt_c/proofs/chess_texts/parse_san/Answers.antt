use Rattle.dgt_c.proofs.ChessTextLemmas.{no_san}
use Rattle.dgt_c.proofs.chess_texts.parse_san.Goals as goal

pub returns-then-prefix-text : goal.returns-then-prefix-text
returns-then-prefix-text c =
    no_san _ _ _ (c.ascii_prefix-prefix.ensures.there c.if-prefix-text.true)
