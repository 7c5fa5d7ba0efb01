use Rattle.dgt_command.proofs.ReaderLemmas
use Rattle.dgt_command.proofs.laws.words_are_short.Goals as goal

pub returns : goal.returns
returns c = ReaderLemmas.words_are_short
