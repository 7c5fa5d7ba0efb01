use Rattle.std.proofs.{Common.{sym, ◌∙◌, length}, lemmas.{Bool.{ltb-false}, List.{take_all}}}
use Rattle.dgt_script.proofs.script_lines.LineBuffer.line.Goals as goal

pub returns-else-self : goal.returns-else-self
returns-else-self c = λ line h.
    let short = ltb-false 519 (length line) (sym h.long ∙ c.if-self.false) in
    (c.as_slice.ensures.value ∙ h.prefix ∙ take_all 519 line short, short)
