use Rattle.dgt_lines.proofs.PrintedWords
use Rattle.dgt_lines.proofs.laws.one_text.Goals as goal

pub returns-clause-printed : goal.returns-clause-printed
returns-clause-printed c = PrintedWords.each_is_printed c.words_of_bytes.ensures

pub returns-clause-once : goal.returns-clause-once
returns-clause-once c = PrintedWords.each_is_printed_once c.words_of_bytes.ensures
