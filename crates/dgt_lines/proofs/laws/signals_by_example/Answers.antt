use Rattle.{std.proofs.{Common.{arith, refl}, lemmas.Fmt.{decimal_digit}}, dgt_lines.specs.NamedLines.{signal_text}}
use Rattle.dgt_lines.proofs.laws.signals_by_example.Goals as goal

pub returns-clause-version : goal.returns-clause-version
unfolding signal_text
returns-clause-version c = rw (decimal_digit 2 (omega arith), decimal_digit 1 (omega arith)) refl
