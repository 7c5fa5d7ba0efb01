use Rattle.{std.proofs.{Common.{rules}, lemmas.Fmt.{decimal_digit}}, dgt_lines.{specs.Lines.{shown_time}, proofs.TextLemmas.{padded_two}}}
use Rattle.dgt_lines.proofs.clocks.time_text.Goals as goal

pub returns : goal.returns
unfolding shown_time
returns c = search (rules, decimal_digit, padded_two)
