use Rattle.{std.proofs.Common.{sym, ◌∙◌}, dgt_script.proofs.ScriptWordLemmas.{clock_decoded, clock_not_faulty, clock_not_refused, clock_reported, error_of, not_ok, ok_of, value_of}}
use Rattle.dgt_script.proofs.script_words.clock_word.Goals as goal

pub returns-in_err-bytes : goal.returns-in_err-bytes
returns-in_err-bytes c =
    rw c.from_residual.ensures
    (λ clock h. not_ok c.from_hex.result h.body
    (c.from_hex.ensures ∙ clock_decoded c.args.word.now clock h) c.in_err-bytes.ensures.variant)

pub returns-in_err-ok : goal.returns-in_err-ok
returns-in_err-ok c =
    let decoded = sym c.from_hex.ensures ∙ ok_of c.from_hex.result _ c.in_ok-bytes.ensures.value in
    let refused = error_of _ _ c.new.result c.in_err-ok.ensures.variant c.new.ensures in
    rw c.from_residual-in_err-ok.ensures
    (λ clock h. clock_not_refused c.args.word.now _ clock refused.0 decoded h refused.1)

pub returns-in_err-ok-2 : goal.returns-in_err-ok-2
returns-in_err-ok-2 c =
    let decoded = sym c.from_hex.ensures ∙ ok_of c.from_hex.result _ c.in_ok-bytes.ensures.value in
    let body = value_of _ _ c.new.result _ c.in_ok-ok.ensures.value c.new.ensures in
    let code = c.from_small-code.ensures.small c.number.ensures.in_range in
    let says = rw (code, c.number.ensures.value, body) at c.view.ensures.says in
    let faulty = error_of _ _ c.view.result c.in_err-ok-2.ensures.variant says in
    rw c.from_residual-in_err-ok-2.ensures
    (λ clock h. clock_not_faulty c.reading_is_exact.ensures.message c.reading_is_exact.ensures.fault
    c.args.word.now _ clock faulty.0 decoded h faulty.1)

pub returns : goal.returns
returns c =
    let decoded = sym c.from_hex.ensures ∙ ok_of c.from_hex.result _ c.in_ok-bytes.ensures.value in
    let body = value_of _ _ c.new.result _ c.in_ok-ok.ensures.value c.new.ensures in
    let said = value_of _ _ c.view.result _ c.in_ok-ok-2.ensures.value c.view.ensures.says in
    let code = c.from_small-code.ensures.small c.number.ensures.in_range in
    clock_reported c.reading_is_exact.ensures.message c.args.word.now _ _ c.clock_of.result decoded
    (rw (code, c.number.ensures.value, body) at said) c.clock_of.ensures
