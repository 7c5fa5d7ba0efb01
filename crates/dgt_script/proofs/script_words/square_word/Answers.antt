use Rattle.dgt_script.proofs.ScriptWordLemmas.{error_of, square_is_text}
use Rattle.dgt_script.proofs.script_words.square_word.Goals as goal

pub returns-in_err-ok : goal.returns-in_err-ok
returns-in_err-ok c =
    rw c.from_residual.ensures
    (λ square h.
    (error_of _ _ c.from_utf8.result c.in_err-ok.ensures.variant c.from_utf8.ensures.cases).1.0
    (square_is_text c.args.word.now square h))
