use Rattle.{std.proofs.{Common.{arith, sym, ◌∙◌, rules}, lemmas.List.{length-drop, take_rest}}, dgt_values.specs.Board.{pieces_of}, dgt_decode.proofs.DumpLemmas.{dump_reported, only_dump}}
use Rattle.dgt_decode.proofs.dumps.dump_position.Goals as goal

pub returns-then-bytes : goal.returns-then-bytes
returns-then-bytes c = search (rules, only_dump)

pub returns-in_default : goal.returns-in_default
returns-in_default c = search (rules, only_dump, take_rest, length-drop)

pub returns-in-Err : goal.returns-in-Err
returns-in-Err c = λ pieces e.
    let reported = only_dump c.reading_is_exact.ensures.message _ pieces
    (omega (arith, c.type_inv.bytes 0)) c.requires e in
    let body = rw (take_rest c.args.bytes.now 3) at c.in-Ok.ensures in
    let bad = rw body.1.same at c.in-Err.ensures in
    omega (arith, bad.0, reported.2 _ c.in-Err.field-0.small)

pub returns-in-Ok-from_codes : goal.returns-in-Ok-from_codes
returns-in-Ok-from_codes c =
    let body = rw (take_rest c.args.bytes.now 3) at c.in-Ok.ensures in
    dump_reported c.reading_is_exact.ensures.message c.args.bytes.now
    (pieces_of c.in-Ok-from_codes.position) c.requires
    (omega (arith, body.1.long, length-drop 3 c.args.bytes.now)) c.if-bytes.false
    (sym body.1.same ∙ sym c.in-Ok-from_codes.ensures)
