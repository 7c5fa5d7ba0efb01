use Rattle.dgt_lines.proofs.PrintedWords
use Rattle.dgt_lines.proofs.laws.texts_append.Goals as goal

pub returns : goal.returns
returns c = PrintedWords.texts_append
