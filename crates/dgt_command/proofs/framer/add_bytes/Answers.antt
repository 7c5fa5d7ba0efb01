use Rattle.{std.proofs.{Common.{◌≡◌, ap, arith, min, take, ◌∙◌}, lemmas.Grind.{common_steps}}, dgt_command.{specs.{Encoding.{AreBytes}, Lengths.{IsWholeWord}}, proofs.ReaderLemmas.{whole_prefix}}}
use Rattle.dgt_command.proofs.ReaderLemmas.{word_limit}
use Rattle.dgt_command.proofs.framer.add_bytes.Goals as goal

pub returns : goal.returns
returns c =
    let chunk = c.args.chunk.now in
    let length = c.length_so_far-length.result in
    let bytes : AreBytes chunk = λ i. omega (arith, c.type_inv.chunk i) in
    let fits : min length 257 ≡ length =
    omega (arith, c.length_so_far-length.ensures, word_limit chunk bytes) in
    let prefix : c.set_prefix.new.self ≡ take length chunk =
    c.set_prefix.ensures ∙ ap (λ n. take n chunk) fits in
    let whole : IsWholeWord c.set_prefix.new.self =
    rw prefix (whole_prefix chunk length bytes c.length_so_far-length.ensures (omega arith)) in
    grind (arith, common_steps)
