use Rattle.{std.proofs.{Common.{length, arith, rules}, lemmas.Bool.{leb-true, leb-false}}, dgt_command.{specs.Encoding.{AreBytes}, proofs.ReaderLemmas.{whole_prefix, partial_prefix, whole_last}}}
use Rattle.dgt_command.proofs.lengths.is_whole.Goals as goal

pub returns-clause-whole : goal.returns-clause-whole
returns-clause-whole c h =
    let bytes : AreBytes c.args.bytes.now = λ i. omega (arith, c.type_inv.bytes i) in
    search (rules, leb-true, whole_last, whole_prefix)

pub returns-clause-partial : goal.returns-clause-partial
returns-clause-partial c h =
    partial_prefix c.args.bytes.now c.length_so_far.result (λ i. omega (arith, c.type_inv.bytes i))
    c.length_so_far.ensures (leb-false c.length_so_far.result (length c.args.bytes.now) h)
