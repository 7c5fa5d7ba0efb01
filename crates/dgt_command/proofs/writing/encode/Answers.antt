use Rattle.{std.proofs.Common.{arith, drop, subst, refl}, dgt_command.{specs.Encoding.{AreBytes}, proofs.DivisionLemmas.{bytes_left}}}
use Rattle.dgt_command.proofs.writing.encode.Goals as goal

pub returns-clause-encodes : goal.returns-clause-encodes
returns-clause-encodes c =
    let kept = drop c.length-need.result c.args.out.now in
    let written : AreBytes c.write.new.out =
    bytes_left c.write.new.out kept (λ i. omega (arith, c.type_inv.out i)) in
    record { are_bytes = subst AreBytes c.write.ensures written; encoded = refl }
