use Rattle.{std.proofs.Common.{arith, rules}, dgt_script.proofs.ScriptWordLemmas.{count_first, count_is_text, count_parsed, error_of, not_ok, ok_of, parsed_count, value_of}}
use Rattle.dgt_script.proofs.script_words.count_word.Goals.{then-first-eq48-via-then-first-eq48, then-first-eq48-via-else-first-eq48+then-not-is_ascii_digit}
use Rattle.dgt_script.proofs.script_words.count_word.Goals as goal

pub returns-in_err-first : goal.returns-in_err-first
returns-in_err-first c = search (rules, count_first)

pub returns-then-first-eq48 : goal.returns-then-first-eq48
returns-then-first-eq48 c = λ count h.
    let at = c.in_ok-first.ensures.item.3.1 0 in
    elim c.then-first-eq48.branch [
      | then-first-eq48-via-then-first-eq48 w ↦
          omega (arith, count_first c.args.word.now count h, at)
      | then-first-eq48-via-else-first-eq48+then-not-is_ascii_digit w ↦
          omega (
            arith,
            count_first c.args.word.now count h,
            at,
            w.if-not-is_ascii_digit.ensures.cases,
          )
    ]

pub returns-in_err-ok : goal.returns-in_err-ok
returns-in_err-ok c =
    rw c.from_residual-in_err-ok.ensures
    (λ count h.
    (error_of _ _ c.from_utf8.result c.in_err-ok.ensures.variant c.from_utf8.ensures.cases).1.0
    (count_is_text c.args.word.now count h))

pub returns-in_err-count : goal.returns-in_err-count
returns-in_err-count c = search (rules, value_of, not_ok, count_parsed)

pub returns : goal.returns
returns c =
    let text =
    value_of _ _ c.from_utf8.result _ c.in_ok-ok.ensures.value c.from_utf8.ensures.cases in
    let at = c.in_ok-first.ensures.item.3.1 0 in
    rw c.into.ensures
    (parsed_count c.args.word.now _ c.parse.result (rw text.0 at c.parse.ensures.value.0)
    (ok_of c.parse.result _ c.in_ok-count.ensures.value)
    (omega (arith, at, c.if-not-is_ascii_digit.ensures.cases)))
