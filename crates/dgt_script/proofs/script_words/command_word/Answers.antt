use Rattle.dgt_script.proofs.ScriptWordLemmas.{length-command}
use Rattle.dgt_script.proofs.script_words.command_word.Goals as goal

pub returns-in_err-hex_bytes : goal.returns-in_err-hex_bytes
returns-in_err-hex_bytes c =
    rw c.from_residual.ensures
    (λ command h. c.in_err-hex_bytes.ensures h.bytes
    (length-command c.words_are_short.ensures command h.bytes h.encodes) h.digits)
