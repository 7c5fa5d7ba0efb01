use Rattle.dgt_command.proofs.DivisionLemmas
use Rattle.dgt_command.proofs.laws.zeros_settle_the_reader.Goals as goal

pub returns : goal.returns
returns c = DivisionLemmas.zeros_settle_the_reader
