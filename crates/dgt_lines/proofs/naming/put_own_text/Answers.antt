use Rattle.std.proofs.Common.{◌++◌, Some, codes, refl}
use Rattle.dgt_lines.proofs.naming.put_own_text.Goals as goal

pub returns-then-is_text-clause-output : goal.returns-then-is_text-clause-output
returns-then-is_text-clause-output g c = record {
  text = codes ": " ++ c.args.bytes.now;
  is = (Some c.args.bytes.now, (c.is_text.ensures.0 c.if-is_text.true, refl), refl);
  gathers = c.put_after_colon.ensures.output;
}
