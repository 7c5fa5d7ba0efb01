use Rattle.{std.proofs.{Common.{rules, arith, subst, sym}, lemmas.List.{take_all}}, dgt_decode.{specs.Feeding.{IsWholeMessage}, proofs.FieldLemmas.{field_reported, only_field}}}
use Rattle.dgt_decode.proofs.fields.field_update.Goals.{then-bytes-ne-FIELD-via-then-bytes-ne-FIELD, then-bytes-ne-FIELD-via-else-bytes-ne-FIELD+then-bytes}
use Rattle.dgt_decode.proofs.fields.field_update.Goals.{then-bytes-ne-FIELD-via-else-bytes-ne-FIELD+else-bytes+then-not-begins_with_field}
use Rattle.dgt_decode.proofs.fields.field_update.Goals as goal

pub returns-in-Ok-Ok : goal.returns-in-Ok-Ok
returns-in-Ok-Ok c =
    let index = rw c.in-Ok-Ok.is-0 at c.from_index.ensures in
    let five = c.if-bytes-ne-FIELD.false in
    let first = c.begins_with_field.ensures.0 c.if-not-begins_with_field.false in
    let whole =
    subst IsWholeMessage (take_all 5 c.args.bytes.now (omega (arith, five))) first.1 in (
      whole,
      field_reported c.reading_is_exact.ensures.message c.args.bytes.now c.in-Ok-Ok.square
          c.in-Ok-Ok.piece whole.later
          (omega (arith, five)) (omega (arith, c.if-bytes.false)) index.1 index.0
          c.in-Ok-Ok.ensures,
    )

pub returns-then-bytes-ne-FIELD : goal.returns-then-bytes-ne-FIELD
returns-then-bytes-ne-FIELD c = λ square piece whole e.
    let bytes = c.args.bytes.now in
    let reported = only_field c.reading_is_exact.ensures.message bytes square piece
    (omega (arith, c.type_inv.bytes 0)) whole e in
    elim c.then-bytes-ne-FIELD.branch [
      | then-bytes-ne-FIELD-via-then-bytes-ne-FIELD w ↦
          omega (arith, w.if-bytes-ne-FIELD.true, reported.1)
      | then-bytes-ne-FIELD-via-else-bytes-ne-FIELD+then-bytes w ↦
          omega (arith, w.if-bytes.true, reported.0)
      | then-bytes-ne-FIELD-via-else-bytes-ne-FIELD+else-bytes+then-not-begins_with_field w ↦
          let same = take_all 5 bytes (omega (arith, reported.1)) in
          let first = subst IsWholeMessage (sym same) whole in
          let begins = w.begins_with_field.ensures.1 (omega (arith, reported.1), first) in
          cc (begins, w.if-not-begins_with_field.true)
    ]

pub returns-in_default : goal.returns-in_default
returns-in_default c = search (rules, only_field)

pub returns-in_default-2 : goal.returns-in_default-2
returns-in_default-2 c = search (rules, only_field)
