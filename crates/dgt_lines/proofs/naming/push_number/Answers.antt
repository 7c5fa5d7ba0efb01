use Rattle.{std.proofs.Common.{arith, refl}, dgt_lines.proofs.TextLemmas.{padded_one}}
use Rattle.dgt_lines.proofs.naming.push_number.Goals as goal

pub returns-clause-text : goal.returns-clause-text
returns-clause-text c = rw (
  c.push_decimal.ensures.bytes,
  padded_one c.args.number (omega (arith, c.ranges.number.fits)),
) refl
