use Rattle.{std.proofs.Common.{[]}, dgt_script.{specs.Script.{some_bytes}, proofs.ScriptLemmas.{word_refused}}}
use Rattle.dgt_script.proofs.faulty_script.bytes_line.Goals as goal

pub returns-in_default : goal.returns-in_default
returns-in_default c =
    word_refused some_bytes [] _ _ _ _ c.in_ok-word.ensures (λ h. c.in_default.ensures h.0 h.1)
    c.wrong_from.ensures
