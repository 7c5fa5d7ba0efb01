use Rattle.{std.proofs.Common.{◌≡◌, append_assoc, arith, refl}, dgt_lines.{specs.Lines.{line, unfinished_text}, proofs.TextLemmas.{padded_one}}}
use Rattle.dgt_lines.proofs.lines.write_unfinished.Goals as goal

pub returns-clause-output : goal.returns-clause-output
returns-clause-output g c =
    let whole : c.push-2.new.self ≡ line c.args.offset (unfinished_text c.args.have) = rw (
      c.push-2.ensures.bytes,
      c.push_decimal.ensures.bytes,
      c.push.ensures.bytes,
      c.push_offset.ensures.text,
      c.new-text.ensures,
      padded_one c.args.have (omega arith),
    ) (simp append_assoc refl) in
    rw whole at c.write_out.ensures.output
