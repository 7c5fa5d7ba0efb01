use Rattle.{std.proofs.Common.{[]}, dgt_script.{specs.Script.{a_clock}, proofs.ScriptLemmas.{word_refused}}}
use Rattle.dgt_script.proofs.script.clock_line.Goals as goal

pub returns-in_default : goal.returns-in_default
returns-in_default c =
    word_refused a_clock [] _ _ _ _ c.in_ok-word.ensures (λ h. c.in_default.ensures h.0 h.1)
    c.wrong_from.ensures
