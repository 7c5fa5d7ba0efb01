use Rattle.{std.proofs.{Common.{rules}, lemmas.Fmt.{decimal_digit}}, dgt_lines.specs.NamedLines.{battery_text}}
use Rattle.dgt_lines.proofs.laws.batteries_by_example.Goals as goal

pub returns-clause-known : goal.returns-clause-known
unfolding battery_text
returns-clause-known c = search (rules, decimal_digit)

pub returns-clause-unknown : goal.returns-clause-unknown
unfolding battery_text
returns-clause-unknown c = search (rules, decimal_digit)
