use Rattle.{std.proofs.Common.{sym, ◌∙◌}}
use Rattle.dgt_c.proofs.sender.send_word.Goals as goal

pub returns-in-Some-clause-sends : goal.returns-in-Some-clause-sends
returns-in-Some-clause-sends g c = λ said is.
    let some = c.in-Some.ensures.some in
    let one = c.encodings_give_commands.ensures in
    let same = sym (one _ _ some) ∙ one _ _ (record { are_bytes = some.are_bytes; encoded = is }) in
    rw (← same) (_, c.send_command.ensures.sends, c.sent_for_c.ensures)
