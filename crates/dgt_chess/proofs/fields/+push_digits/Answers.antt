use Rattle.std.{proofs.{Common.{◌+◌, ◌%◌, ◌/◌, ◌∙◌, ◌∷◌, ◌++◌, [], ap, arith, sym, append_assoc}, lemmas.Fmt.{decimal_digit, decimal_step}}, specs.Prelude.{decimal}}
use Rattle.dgt_chess.proofs.Decimals.{more_long, one_long}
use Rattle.dgt_chess.proofs.fields.+push_digits.Goals as goal

pub push_digit-requires-clause-room : goal.push_digit-requires-clause-room
push_digit-requires-clause-room t c = omega (arith, one_long c.args.number c.if-number-lt10.true)

pub returns-then-number-lt10-clause-text : goal.returns-then-number-lt10-clause-text
returns-then-number-lt10-clause-text t c =
    c.push_digit.ensures.text
    ∙ ap (λ l. c.args.text.now.bytes ++ l) (sym (decimal_digit c.args.number c.if-number-lt10.true))

pub returns-then-number-lt10-clause-len : goal.returns-then-number-lt10-clause-len
returns-then-number-lt10-clause-len t c =
    omega (arith, c.push_digit.ensures.len, one_long c.args.number c.if-number-lt10.true)

pub push_digits-requires : goal.push_digits-requires
push_digits-requires t c = (
  omega arith,
  omega (arith, more_long c.args.number c.if-number-lt10.false (omega arith)),
)

pub push_digit-requires-2-clause-room : goal.push_digit-requires-2-clause-room
push_digit-requires-2-clause-room t c = omega (
  arith,
  c.push_digits.ensures.len,
  more_long c.args.number c.if-number-lt10.false
      (omega arith),
)

pub returns-clause-text : goal.returns-clause-text
returns-clause-text t c =
    let last = (48 + c.args.number % 10) ∷ [] in
    c.push_digit-2.ensures.text ∙ ap (λ l. l ++ last) c.push_digits.ensures.text
    ∙ append_assoc c.args.text.now.bytes (decimal (c.args.number / 10)) last
    ∙ ap (λ l. c.args.text.now.bytes ++ l)
    (sym (decimal_step c.args.number c.if-number-lt10.false (omega arith)))

pub returns-clause-len : goal.returns-clause-len
returns-clause-len t c = omega (
  arith,
  c.push_digits.ensures.len,
  c.push_digit-2.ensures.len,
  more_long c.args.number c.if-number-lt10.false (omega arith),
)
