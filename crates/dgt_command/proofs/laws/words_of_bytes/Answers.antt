use Rattle.dgt_command.proofs.DivisionLemmas
use Rattle.dgt_command.proofs.laws.words_of_bytes.Goals as goal

pub returns : goal.returns
returns c = DivisionLemmas.each_has_its_words
