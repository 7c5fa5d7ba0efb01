use Rattle.dgt_command.proofs.ReadWords
use Rattle.dgt_command.proofs.laws.encodings_give_commands.Goals as goal

pub returns : goal.returns
returns c = ReadWords.encodes_its_command
