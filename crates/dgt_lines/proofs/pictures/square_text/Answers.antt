use Rattle.{std.proofs.Common.{slice_index_or, rules}, dgt_lines.proofs.RankLemmas.{letter_of, letters_with}}
use Rattle.dgt_lines.proofs.pictures.square_text.Goals as goal

pub returns-clause-piece : goal.returns-clause-piece
returns-clause-piece c h = search (rules, slice_index_or, letters_with, letter_of)
