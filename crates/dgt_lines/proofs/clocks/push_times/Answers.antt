use Rattle.{std.proofs.Common.{append_assoc, rules}, dgt_lines.specs.Clocks.{clock_text}}
use Rattle.dgt_lines.proofs.clocks.push_times.Goals as goal

pub returns : goal.returns
unfolding clock_text
returns c = search (rules, append_assoc)
