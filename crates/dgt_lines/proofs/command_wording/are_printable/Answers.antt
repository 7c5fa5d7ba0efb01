use Rattle.{std.proofs.Common.{rules}, dgt_lines.proofs.TextLemmas.{list_all_behind}}
use Rattle.dgt_lines.proofs.command_wording.are_printable.Goals as goal

pub returns-then-four_are_printable : goal.returns-then-four_are_printable
returns-then-four_are_printable c = search (rules, list_all_behind)
