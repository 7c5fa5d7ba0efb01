use Rattle.{std.proofs.Common.{arith, rules}, dgt_script.{specs.ScriptReading.{left_words}, proofs.ScriptLemmas.{bad_from_there, left_within, line_asks, verb_refused}}}
use Rattle.dgt_script.proofs.first_word.read_line.Goals as goal

pub returns-in_default-clause-bad : goal.returns-in_default-clause-bad
returns-in_default-clause-bad g c =
    let cut = c.cut_word.result in
    verb_refused g.V.FirstWord.vocabulary c.args.line.now cut.0.now (left_words cut.1)
    c.cut_word.ensures (omega arith) c.in_default.ensures

pub returns-in-Ok-clause-asked : goal.returns-in-Ok-clause-asked
returns-in-Ok-clause-asked g c = search (rules, line_asks)

pub overflow_sub-result : goal.overflow_sub-result
overflow_sub-result g c =
    let cut = c.cut_word.result in
    left_within g.V.FirstWord.vocabulary c.args.line.now cut.0.now (left_words cut.1)
    c.cut_word.ensures (omega arith)
    c.in-Some.verb c.in-Some.ensures c.in-Err.field-0 c.in-Err.ensures

pub returns-in-Err-clause-bad : goal.returns-in-Err-clause-bad
returns-in-Err-clause-bad g c = search (rules, bad_from_there)
