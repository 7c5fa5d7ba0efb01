use Rattle.{std.proofs.Common.{◌∙◌}, dgt_lines.proofs.DecimalLemmas.{pair_at}}
use Rattle.dgt_lines.proofs.lines.two_digits.Goals as goal

pub returns : goal.returns
returns c = c.from.ensures ∙ pair_at c.args.number c.requires
