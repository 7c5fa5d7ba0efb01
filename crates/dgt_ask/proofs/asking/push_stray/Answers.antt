use Rattle.{std.{proofs.Common.{rules}, specs.Prelude.{IsTrue}}, dgt_ask.proofs.AskLemmas.{read_byte, same_byte}}
use Rattle.dgt_ask.proofs.asking.push_stray.Goals as goal

pub returns-then-not-begins_no_command-clause-stray :
    goal.returns-then-not-begins_no_command-clause-stray
returns-then-not-begins_no_command-clause-stray c = λ byte stray.
    let same = same_byte _ _ byte c.in-Some.ensures stray.0 in
    let begins : IsTrue c.begins_no_command.result =
    c.begins_no_command.ensures.1 (rw same at stray.1) in
    absurd (search rules)

pub returns-in_err-extend_from_slice-clause-unfit :
    goal.returns-in_err-extend_from_slice-clause-unfit
returns-in_err-extend_from_slice-clause-unfit c = λ none.
    let begins : IsTrue c.begins_no_command.result = search rules in
    absurd
    (none c.in-Some.byte (read_byte _ _ c.in-Some.ensures, c.begins_no_command.ensures.0 begins))

pub returns-clause-unfit : goal.returns-clause-unfit
returns-clause-unfit c = λ none.
    let begins : IsTrue c.begins_no_command.result = search rules in
    absurd
    (none c.in-Some.byte (read_byte _ _ c.in-Some.ensures, c.begins_no_command.ensures.0 begins))
